-- What a crash leaves in each of the two writes that add a record.
use Rattle.std.proofs.Common.{◌≡◌, ℕ, ◌+◌, ◌≤◌, List, [], ◌∷◌, ◌++◌, length, get_or, take, drop, sym, ◌∙◌, ap, subst, arith, append_assoc, length-append}
use Rattle.std.proofs.lemmas.List.{take_at, drop_at, drop_more}
use Rattle.crash_disk.specs.Disk.{IsTorn, Holds, Follows, Only}
use Rattle.record_journal.specs.Format.{Record, RecordFits, body, records, recovered, size, Whole}
use Rattle.record_journal.specs.Journal.{IsAtRest, IsBody, IsBeforeOrAfter}
use Rattle.record_journal.proofs.Torn.{torn_front, torn_back, holds_middle, two_parts, three_parts}
use Rattle.record_journal.proofs.Spelled.{length-body, recovered_closed, recovered_gate, records-push, length-records-push, all_push}

-- a file with a record after the closed gate
pub record IsStaged (rs : List Record) (r : Record) (bytes : List ℕ) : Type 0 where
  pub rest : List ℕ
  pub is : bytes ≡ records rs ++ 0 ∷ (body r ++ 0 ∷ rest)

module _ (limit : ℕ) (rs : List Record) (r : Record) (end : ℕ) (bytes old : List ℕ) (added : IsBody r bytes) (at_rest : IsAtRest limit rs end old) (room : end + 1 + length bytes ≤ limit) where
  abbrev front : List ℕ
  front = records rs ++ 0 ∷ []

  pub length-bytes : length bytes ≡ size r + 1
  length-bytes = omega (arith, ap length added.is, length-append (body r) (0 ∷ []), length-body r)

  length-front : length front ≡ end + 1
  length-front = omega (arith, length-append (records rs) (0 ∷ []), at_rest.size)

  old_split : old ≡ front ++ at_rest.rest
  old_split = at_rest.is ∙ sym (append_assoc (records rs) (0 ∷ []) at_rest.rest)

  length-old : end + 1 ≤ length old
  length-old = omega (arith, ap length old_split, length-append front at_rest.rest, length-front)

  old_front : take (end + 1) old ≡ front
  old_front = ap (λ (l : List ℕ). take (end + 1) l) old_split ∙ take_at front at_rest.rest (end + 1) length-front

  pub before : recovered limit old ≡ Whole rs
  before = ap (recovered limit) at_rest.is ∙ recovered_closed limit rs 0 at_rest.rest at_rest.fit (omega (arith, at_rest.within, at_rest.size)) (omega arith)

  -- every image of the first write has the closed gate, so it has the old records
  pub torn_behind : (c : List ℕ) → IsTorn (end + 1) (length bytes) old c → recovered limit c ≡ Whole rs
  torn_behind c torn =
      let is : c ≡ front ++ drop (end + 1) c = two_parts (end + 1) c front (torn_front (end + 1) (length bytes) old c torn length-old ∙ old_front) in
      ap (recovered limit) (is ∙ append_assoc (records rs) (0 ∷ []) (drop (end + 1) c))
      ∙ recovered_closed limit rs 0 (drop (end + 1) c) at_rest.fit (omega (arith, at_rest.within, at_rest.size)) (omega arith)

  pub written_behind : (c : List ℕ) → IsTorn (end + 1) (length bytes) old c → Holds (end + 1) bytes c → IsStaged rs r c
  written_behind c torn holds = record {
    rest = drop (end + 1 + length bytes) c;
    is =
        three_parts (end + 1) (length bytes) c front bytes (torn_front (end + 1) (length bytes) old c torn length-old ∙ old_front) (holds_middle (end + 1) bytes c holds (omega (arith, length-bytes)))
        ∙ ap (λ (l : List ℕ). (front ++ l) ++ drop (end + 1 + length bytes) c) added.is
        ∙ regroup (drop (end + 1 + length bytes) c);
  }
    where
      regroup : (rest : List ℕ) → (front ++ (body r ++ 0 ∷ [])) ++ rest ≡ records rs ++ 0 ∷ (body r ++ 0 ∷ rest)
      regroup rest = append_assoc front (body r ++ 0 ∷ []) rest ∙ append_assoc (records rs) (0 ∷ []) ((body r ++ 0 ∷ []) ++ rest)
          ∙ ap (λ (l : List ℕ). records rs ++ (0 ∷ l)) (append_assoc (body r) (0 ∷ []) rest)

  pub stage_crash : (left now : List ℕ → Type 0) → Only old left → Follows (IsTorn (end + 1) (length bytes)) left now → (c : List ℕ) → now c → recovered limit c ≡ Whole rs
  stage_crash left now only follows c is =
      let from = follows c is in
      torn_behind c (subst (λ f. IsTorn (end + 1) (length bytes) f c) (only from.0 from.1) from.2)

  module _ (staged : List ℕ) (is_staged : IsStaged rs r staged) where
    staged_split : staged ≡ front ++ (body r ++ 0 ∷ is_staged.rest)
    staged_split = is_staged.is ∙ sym (append_assoc (records rs) (0 ∷ []) (body r ++ 0 ∷ is_staged.rest))

    length-staged : end + 1 ≤ length staged
    length-staged = omega (arith, ap length staged_split, length-append front (body r ++ 0 ∷ is_staged.rest), length-front)

    staged_front : take end staged ≡ records rs
    staged_front = ap (λ (l : List ℕ). take end l) is_staged.is ∙ take_at (records rs) (0 ∷ (body r ++ 0 ∷ is_staged.rest)) end (sym at_rest.size)

    staged_back : drop (end + 1) staged ≡ body r ++ 0 ∷ is_staged.rest
    staged_back = ap (λ (l : List ℕ). drop (end + 1) l) staged_split ∙ drop_at front (body r ++ 0 ∷ is_staged.rest) (end + 1) length-front

    pub gate_parts : (c : List ℕ) → IsTorn end 1 staged c → c ≡ records rs ++ get_or c end 0 ∷ (body r ++ 0 ∷ is_staged.rest)
    gate_parts c torn =
        two_parts end c (records rs) (torn_front end 1 staged c torn (omega (arith, length-staged)) ∙ staged_front)
        ∙ ap (λ (l : List ℕ). records rs ++ l)
        (drop_more c end 0 (omega (arith, length-staged, torn.no_shorter)) ∙ ap (λ (l : List ℕ). get_or c end 0 ∷ l) (torn_back end 1 staged c torn length-staged ∙ staged_back))

    -- every image of the second write has the whole record, before or after its gate is opened
    pub torn_gate : (c : List ℕ) → IsTorn end 1 staged c → IsBeforeOrAfter limit rs r c
    torn_gate c torn =
        subst (IsBeforeOrAfter limit rs r) (sym (gate_parts c torn))
        (recovered_gate limit rs r (get_or c end 0) is_staged.rest at_rest.fit added.fits (omega (arith, room, length-bytes, at_rest.size)))

    pub written_gate : (c : List ℕ) → IsTorn end 1 staged c → Holds end (1 ∷ []) c → IsAtRest limit (rs ++ r ∷ []) (end + length bytes) c
    written_gate c torn holds = record {
      fit = all_push RecordFits rs r at_rest.fit added.fits;
      size = omega (arith, length-records-push rs r, length-bytes, at_rest.size);
      within = omega (arith, room);
      rest = is_staged.rest;
      is =
          let gate : get_or c end 0 ≡ 1 = ap (λ (k : ℕ). get_or c k 0) (omega arith) ∙ holds.each 0 (omega arith) in
          gate_parts c torn ∙ ap (λ (g : ℕ). records rs ++ g ∷ (body r ++ 0 ∷ is_staged.rest)) gate ∙ sym (records-push rs r (0 ∷ is_staged.rest));
    }

    pub gate_crash : (left now : List ℕ → Type 0) → Only staged left → Follows (IsTorn end 1) left now → (c : List ℕ) → now c → IsBeforeOrAfter limit rs r c
    gate_crash left now only follows c is =
        let from = follows c is in
        torn_gate c (subst (λ f. IsTorn end 1 f c) (only from.0 from.1) from.2)
