-- A new turn meets its rule.
use Rattle.std.proofs.Common.{◌≡◌, ◌≢◌, ℕ, zero, suc, ◌≤◌, false, true≢false, List, [], ◌∷◌, length, sym, refl, ap, ◌∙◌, subst, inl, arith, Some, replicate}
use Rattle.atomic_table.specs.Table.{opening}
use Rattle.turn_lock.specs.Counts.{times, count_from, IsOnceWithin}
use Rattle.turn_lock.specs.Views.{first_view}
use Rattle.turn_lock.specs.Rule.{IsHeard, Knows, Holds}
use Rattle.turn_lock.proofs.Counts.{times-count_from}
use Rattle.turn_lock.proofs.Lists.{All_none, only_at}
use Rattle.turn_lock.proofs.Prefixes.{goes_none}
use Rattle.turn_lock.proofs.Words.{zeros_at, zeros_long}

pub some_owner : (n : ℕ) → 1 ≤ n → count_from 1 n ≢ []
some_owner zero h = absurd (omega arith)
some_owner (suc n) h = λ e. absurd (let z = ap length e in omega arith)

module _ {T E B : Type 0} (entries : T → List E) (owner : E → ℕ) (note : T → ℕ → ℕ) (base_of : T → B) where
  pub opens : (x : T) (owners count : ℕ) (ws : List ℕ) → ws ≡ 0 ∷ 0 ∷ replicate count 0 → entries x ≡ [] → ((i : ℕ) → note x i ≡ 0) → 1 ≤ owners
      → Holds entries owner note base_of (base_of x) owners count (opening ws (Some x ∷ []) (first_view (base_of x) count owners))
  opens x owners count ws e empty blank some_ = record {
    next = 0;
    serving = 0;
    notes = replicate count 0;
    words = e;
    counted = zeros_long count;
    stands = record {
      left = [];
      of_owners = All_none (λ e. (1 ≤ owner e) × (owner e ≤ owners));
      turns = omega arith;
      in_order = omega arith;
      tickets = λ k. ((λ a b. absurd (omega arith)), (λ a. absurd (omega arith)), λ a. omega arith);
      owned = λ o. subst (IsOnceWithin 1 (suc owners) o) (omega arith) (subst (λ m. IsOnceWithin 1 m o (times o (count_from 1 owners))) (omega arith) (times-count_from owners 1 o));
      each = only_at (Knows owner (base_of x) [] (replicate count 0) 0) (first_view (base_of x) count owners) record {
        live = λ _. (refl, refl);
        spent = λ n. absurd (some_owner owners some_ n);
        goes = goes_none owner [] (count_from 1 owners);
        known = λ i s. refl;
        heard = All_none (IsHeard owner (base_of x) [] (replicate count 0) (count_from 1 owners));
        at_turn = λ t. absurd (true≢false (sym t));
      };
      place = inl record {
        value = x;
        home = refl;
        has_left = empty;
        has_base = refl;
        has_notes = λ i. blank i ∙ sym (zeros_at count i);
        nobody = only_at (λ v. v.inside ≡ false) (first_view (base_of x) count owners) refl;
      };
    };
  }
