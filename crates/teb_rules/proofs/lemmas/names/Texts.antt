-- Names as strings and as bytes.
use Rattle.std.proofs.Common.{◌≡◌, ℕ, zero, suc, ◌<◌, slice_get, get_or, subst, arith, List, [], ◌∷◌, ◌++◌, position, String}
use Rattle.std.proofs.Common.{◌+◌, not, if◌then◌else◌, ◌||◌, true, false, cond, string_bytes, refl, ap, ◌∙◌, sym, length, Some}
use Rattle.std.specs.declared.alloc.Global.{Global}
use Rattle.std.specs.Str.{bytes_eq}
use Rattle.std.specs.List.{list_any, position_or_len, IsDistinct, AllByRecursion}
use Rattle.std.proofs.lemmas.Bool.Decides.{nat_tests}
use Rattle.std.proofs.lemmas.Cmp.{nat_list_eq_equiv}
use Rattle.std.proofs.lemmas.Map.Keys.{IsDistinct-head, IsDistinct-tail}
use Rattle.std.proofs.lemmas.Option.{slice_get_within}
use Rattle.std.specs.String.{string_eq}
use Rattle.std.proofs.lemmas.List.{length-map}
use Rattle.indexmap.specs.IndexSet.{insert_key}
use Rattle.teb_rules.specs.names.Names.{has, number_of, texts}

pub has_texts : (bs : List ℕ) (ks : List (String Global)) → has (texts ks) bs ≡ list_any (λ k. bytes_eq bs (string_bytes k)) ks
has_texts bs [] = refl
has_texts bs (k ∷ ks) = ap (λ b. bytes_eq bs (string_bytes k) || b) (has_texts bs ks)

place_texts : (bs : List ℕ) (ks : List (String Global)) → position_or_len (bytes_eq bs) (texts ks) ≡ position_or_len (λ k. bytes_eq bs (string_bytes k)) ks
place_texts bs [] = refl
place_texts bs (k ∷ ks) = ap (λ n. cond (not (bytes_eq bs (string_bytes k))) (1 + n) 0) (place_texts bs ks)

pub long : (ks : List (String Global)) → length (texts ks) ≡ length ks
long ks = length-map ks (string_bytes {Z = Global})

pub number_texts : (bs : List ℕ) (ks : List (String Global)) → number_of (texts ks) bs ≡ position (λ k. bytes_eq bs (string_bytes k)) ks
number_texts bs ks = rw (place_texts bs ks, long ks)

pub texts_push : (ks : List (String Global)) (k : String Global) → texts (ks ++ k ∷ []) ≡ texts ks ++ string_bytes k ∷ []
texts_push [] k = refl
texts_push (x ∷ ks) k = ap (λ l. string_bytes x ∷ l) (texts_push ks k)

-- how inserting a key that is not there changes the names
pub inserted : (bs : List ℕ) (ks new : List (String Global)) (key : String Global) → string_bytes key ≡ bs → list_any (λ k. bytes_eq bs (string_bytes k)) ks ≡ false
    → new ≡ insert_key string_eq ks key → (has (texts ks) bs ≡ false) × (texts new ≡ texts ks ++ bs ∷ [])
inserted bs ks new key is absent put =
    let none : list_any (string_eq key) ks ≡ false = ap (λ b. list_any (λ k. bytes_eq b (string_bytes k)) ks) is ∙ absent in (
      has_texts bs ks ∙ absent,
      ap texts (put ∙ ap (λ b. if b then ks else ks ++ key ∷ []) none) ∙ texts_push ks key ∙ ap (λ b. texts ks ++ b ∷ []) is,
    )

apart_at : (x : List ℕ) (names : List (List ℕ)) (i : ℕ) (name : List ℕ) → AllByRecursion (λ y. bytes_eq x y ≡ false) names → slice_get names i ≡ Some name → bytes_eq x name ≡ false
apart_at x [] i name apart is = absurd (cc)
apart_at x (y ∷ names) zero name apart is = let same : y ≡ name = cc in subst (λ (z : List ℕ). bytes_eq x z ≡ false) same apart.0
apart_at x (y ∷ names) (suc i) name apart is = apart_at x names i name apart.1 is

place_itself : (names : List (List ℕ)) (i : ℕ) (name : List ℕ) → IsDistinct bytes_eq names → slice_get names i ≡ Some name → position_or_len (bytes_eq name) names ≡ i
place_itself [] i name apart is = absurd (cc)
place_itself (x ∷ names) zero name apart is =
    let same : x ≡ name = cc in
    let met : bytes_eq name x ≡ true = ap (bytes_eq name) same ∙ nat_list_eq_equiv.refl name in
    rw met
place_itself (x ∷ names) (suc i) name apart is =
    let other : bytes_eq name x ≡ false = nat_list_eq_equiv.symm name x ∙ apart_at x names i name (IsDistinct-head bytes_eq x names apart) is in
    rw other (let next : 1 + position_or_len (bytes_eq name) names ≡ suc (position_or_len (bytes_eq name) names) = omega arith in
    next ∙ ap suc (place_itself names i name (IsDistinct-tail bytes_eq x names apart) is))

-- a name among distinct ones is found at its own index
pub number_of_itself : (names : List (List ℕ)) (i : ℕ) (name : List ℕ) → IsDistinct bytes_eq names → slice_get names i ≡ Some name → number_of names name ≡ Some i
number_of_itself names i name apart is =
    let place = place_itself names i name apart is in
    let low : i < length names = slice_get_within names i name is in
    grind (arith, nat_tests, place)

pub text_at : (ks : List (String Global)) (i : ℕ) (k : String Global) → i < length (texts ks) → k ≡ get_or ks i k → slice_get (texts ks) i ≡ Some (string_bytes k)
text_at [] i k low is = absurd (omega arith)
text_at (x ∷ ks) zero k low is = ap (λ (y : String Global). Some (string_bytes y)) (sym is)
text_at (x ∷ ks) (suc i) k low is = text_at ks i k (omega arith) is
