-- Lists in oldest-first order, and the same lists newest first.
use Rattle.std.proofs.Common.{◌≡◌, List, [], ◌∷◌, ◌++◌, map, reverse, refl, ap, sym, ◌∙◌, append_assoc}
use Rattle.std.specs.List.{All}
use Rattle.std.proofs.lemmas.List.{reverse-append, map-append}
use Rattle.std.proofs.lemmas.List.Elements.{All-head, All-tail, All-append, All-nil, All-cons}
use Rattle.audit_check.specs.Items.{Item}
use Rattle.audit_law.proofs.Texts.{onto}

pub onto_append : (past a b : List Item) → onto past (a ++ b) ≡ onto (onto past a) b
onto_append past [] b = refl
onto_append past (i ∷ a) b = onto_append (i ∷ past) a b

reverse_cons : {A : Type 0} → (x : A) (xs : List A) → reverse (x ∷ xs) ≡ reverse xs ++ x ∷ []
reverse_cons x xs = reverse-append (x ∷ []) xs

pub onto_map : {A : Type 0} (f : A → Item) (past : List Item) (xs : List A) → onto past (map f xs) ≡ map f (reverse xs) ++ past
onto_map f past [] = refl
onto_map f past (x ∷ xs) =
    onto_map f (f x ∷ past) xs
    ∙ sym (append_assoc (map f (reverse xs)) (f x ∷ []) past)
    ∙ ap (λ (l : List Item). l ++ past) (sym (map-append f (reverse xs) (x ∷ [])))
    ∙ ap (λ l. map f l ++ past) (sym (reverse_cons x xs))

pub All-reverse : {A : Type 0} (P : A → Type 0) (xs : List A) → All P xs → All P (reverse xs)
All-reverse P [] h = h
All-reverse P (x ∷ xs) h =
    rw (reverse_cons x xs) (All-append P (reverse xs) (x ∷ []) (All-reverse P xs (All-tail P x xs h)) (All-cons P x [] (All-head P x xs h) (All-nil P)))
