-- How the bytes of a record are written.
use Rattle.std.proofs.Common.{◌≡◌, ℕ, ◌+◌, ◌<◌, List, [], ◌∷◌, ◌++◌, length, get_or, take, sym, ◌∙◌, ap, append_assoc}
use Rattle.std.specs.List.{AllByRecursion}
use Rattle.std.proofs.lemmas.List.{take_more, append-nil}
use Rattle.record_journal.specs.declared.change.Change.{Change}
use Rattle.record_journal.specs.Format.{Record, ChangeFits, entry, entries}
use Rattle.record_journal.proofs.Spelled.{all_push}

pub pieces : (old a b c d four eight : List ℕ) (t tag : ℕ) → a ≡ old ++ t ∷ [] → b ≡ a ++ four → c ≡ b ++ tag ∷ [] → d ≡ c ++ eight → d ≡ old ++ (t ∷ (four ++ tag ∷ eight))
pieces old a b c d four eight t tag is-a is-b is-c is-d =
    is-d
    ∙ ap (λ (l : List ℕ). l ++ eight) (is-c ∙ ap (λ (l : List ℕ). l ++ tag ∷ []) (is-b ∙ ap (λ (l : List ℕ). l ++ four) is-a))
    ∙ append_assoc ((old ++ t ∷ []) ++ four) (tag ∷ []) eight
    ∙ append_assoc (old ++ t ∷ []) four (tag ∷ eight)
    ∙ append_assoc old (t ∷ []) (four ++ tag ∷ eight)

entries-push : (r : Record) (c : Change) → entries (r ++ c ∷ []) ≡ entries r ++ entry c
entries-push [] c = append-nil (entry c)
entries-push (d ∷ r) c = ap (λ (l : List ℕ). entry d ++ l) (entries-push r c) ∙ sym (append_assoc (entry d) (entries r) (entry c))

pub grows : (front bytes next : List ℕ) (r : Record) (i : ℕ) (d : Change) → i < length r → bytes ≡ front ++ entries (take i r) → next ≡ bytes ++ entry (get_or r i d) → next ≡ front
    ++ entries (take (i + 1) r)
grows front bytes next r i d below is adds =
    adds
    ∙ ap (λ (l : List ℕ). l ++ entry (get_or r i d)) is
    ∙ append_assoc front (entries (take i r)) (entry (get_or r i d))
    ∙ ap (λ (l : List ℕ). front ++ l) (sym (entries-push (take i r) (get_or r i d)) ∙ ap entries (sym (take_more r i d below)))

pub fit_more : (r : Record) (i : ℕ) (d : Change) → i < length r → AllByRecursion ChangeFits (take i r) → ChangeFits (get_or r i d) → AllByRecursion ChangeFits (take (i + 1) r)
fit_more r i d below all one = rw (take_more r i d below) (all_push ChangeFits (take i r) (get_or r i d) all one)
