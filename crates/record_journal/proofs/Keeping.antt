-- What a journal keeps from one record to the next.
use Rattle.std.proofs.Common.{◌≡◌, inl, inr, ℕ, ◌≤◌, List, [], ◌∷◌, ◌++◌, length, drop, refl, sym, ◌∙◌, ap, arith, length-append}
use Rattle.std.proofs.lemmas.List.{take_at, take_all}
use Rattle.record_journal.specs.declared.journal.Journal.{Journal}
use Rattle.crash_disk.specs.Disk.{Holds}
use Rattle.crash_disk.specs.Sizes.{default_capacity}
use Rattle.record_journal.specs.Format.{Record, recovered, Whole}
use Rattle.record_journal.specs.Journal.{IsAtRest, IsBeforeOrAfter, StandsFor}
use Rattle.record_journal.specs.Kept.{IsRunning, Keeps}
use Rattle.record_journal.proofs.Torn.{holds_middle, three_parts}
use Rattle.record_journal.proofs.Spelled.{recovered_closed}

pub stands : (limit : ℕ) (rs : List Record) (end : ℕ) (bytes : List ℕ) → IsAtRest limit rs end bytes → recovered limit bytes ≡ Whole rs
stands limit rs end bytes at_rest = ap (recovered limit) at_rest.is ∙ recovered_closed limit rs 0 at_rest.rest at_rest.fit (omega (arith, at_rest.within, at_rest.size)) (omega arith)

pub closed_first : (bytes : List ℕ) → Holds 0 (0 ∷ []) bytes → IsAtRest default_capacity [] 0 bytes
closed_first bytes holds = record {
  fit = tt;
  size = refl;
  within = omega arith;
  rest = drop 1 bytes;
  is = three_parts 0 1 bytes [] (0 ∷ []) refl (holds_middle 0 (0 ∷ []) bytes holds (omega arith));
}

pub runs : {D : Type 0} (seen : D → List ℕ) (may_leave : D → List ℕ → Type 0) (asked : List Record) (journal : Journal D) → IsRunning seen may_leave asked journal → Keeps seen may_leave asked journal
runs seen may_leave asked journal running = record {
  few = omega (arith, running.all);
  each = λ c left. record {
    k = length asked;
    no_fewer = omega (arith, running.all);
    no_more = omega arith;
    stands =
        ap (recovered default_capacity) (running.durable c left)
        ∙ stands default_capacity asked journal.progress.end (seen journal.disk) running.at_rest
        ∙ ap Whole (sym (take_all (length asked) asked (omega arith)));
  };
  running = λ is. running;
}

pub one_more : (limit : ℕ) (asked : List Record) (r : Record) (least : ℕ) (c : List ℕ) → least ≤ length asked → IsBeforeOrAfter limit asked r c → StandsFor limit least (asked ++ r ∷ []) c
one_more limit asked r least c few (inl without) = record {
  k = length asked;
  no_fewer = few;
  no_more = omega (arith, length-append asked (r ∷ []));
  stands = without ∙ ap Whole (sym (take_at asked (r ∷ []) (length asked) refl));
}
one_more limit asked r least c few (inr with) = record {
  k = length (asked ++ r ∷ []);
  no_fewer = omega (arith, length-append asked (r ∷ []));
  no_more = omega arith;
  stands = with ∙ ap Whole (sym (take_all (length (asked ++ r ∷ [])) (asked ++ r ∷ []) (omega arith)));
}
