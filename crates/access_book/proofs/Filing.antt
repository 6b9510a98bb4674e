-- The accesses of an ended transaction, filed one by one: what is left to file.
use Rattle.std.proofs.Common.{◌≡◌, ℕ, ◌<◌, ◌≤◌, ◌+◌, Bool, true, false, cond, not, eqb, ◌&&◌, ◌||◌, List, ◌∷◌, filter, length, set, refl, sym, ◌∙◌, ap, subst, arith, inl, inr}
use Rattle.std.specs.List.{list_any}
use Rattle.std.proofs.Math.ListN.{length-set}
use Rattle.std.proofs.lemmas.List.Sums.{sum_by-cons}
use Rattle.std.proofs.lemmas.Bool.Decides.{eqb_tells}
use Rattle.teb_rules.specs.declared.names.Txn.{Txn}
use Rattle.teb_rules.specs.history.Ascending.{IsAscendingBy, put_by}
use Rattle.teb_rules.specs.history.Live.{number_of}
use Rattle.teb_rules.proofs.lemmas.history.AscendingLists.{ascending-put, ascending-filter}
use Rattle.cell_index.proofs.Lists.{set_tells}
use Rattle.arena_multimap.specs.NumberedLists.{Shown as Numbered, list_in}
use Rattle.access_book.specs.declared.accesses.Touch.{Touch}
use Rattle.access_book.specs.declared.accesses.Touch.TheVariants as touch
use Rattle.access_book.specs.Books.{is_among}
use Rattle.access_book.specs.Places.{puts_here, holds_put, puts_held, AreKnown}
use Rattle.access_book.proofs.Among.{among_put, among_others, put_cond, take_cond}

-- every list ascends
abbrev pub AllAscend : List (List Txn) → Type 0
AllAscend ls = (i : ℕ) → IsAscendingBy number_of (list_in ls i)

pub at_most_one : (b : Bool) → cond b 1 0 ≤ 1
at_most_one true = omega arith
at_most_one false = omega arith

-- t is put into the lists a, and the accesses `left` of all accesses of t are still to be filed
pub record IsFiling (t : ℕ) (a b : Numbered Txn) (all left : List Touch) (puts : ℕ) : Type 0 where
  pub filed : AllAscend b.lists
  pub count : length b.lists ≡ length a.lists
  pub known : AreKnown (length a.lists) left
  pub counted : puts + puts_held left ≡ puts_held all
  pub enough : puts_held left ≤ b.spare
  pub room : a.spare ≤ b.spare + puts
  pub lists : (i u : ℕ) → (is_among u (list_in b.lists i) || (list_any (puts_here i) left && eqb t u)) ≡ (is_among u (list_in a.lists i) || (list_any (puts_here i) all && eqb t u))

-- t is removed from the lists a at which it made an access of a kind
pub record IsTaking (t : ℕ) (here : ℕ → Touch → Bool) (a b : Numbered Txn) (all left : List Touch) : Type 0 where
  pub filed : AllAscend b.lists
  pub count : length b.lists ≡ length a.lists
  pub room : b.spare ≡ a.spare
  pub lists : (i u : ℕ) → (is_among u (list_in b.lists i) && not (list_any (here i) left && eqb t u)) ≡ (is_among u (list_in a.lists i) && not (list_any (here i) all && eqb t u))

set_ascends : (ls ls' : List (List Txn)) (p : ℕ) (L : List Txn) → ls' ≡ set ls p L → p < length ls → IsAscendingBy number_of L → AllAscend ls → AllAscend ls'
set_ascends ls ls' p L e lt own all i = subst (IsAscendingBy number_of) (sym (ap (λ (k : List (List Txn)). list_in k i) e ∙ set_tells ls p i L lt)) (go (eqb i p))
  where
    go : (b : Bool) → IsAscendingBy number_of (cond b L (list_in ls i))
    go true = own
    go false = all i

in_twice : (a s r e : Bool) → ((a || (s && e)) || (r && e)) ≡ (a || ((s || r) && e))
in_twice true s r e = refl
in_twice false true r true = refl
in_twice false true true false = refl
in_twice false true false false = refl
in_twice false false r e = refl

out_twice : (a s r e : Bool) → ((a && not (s && e)) && not (r && e)) ≡ (a && not ((s || r) && e))
out_twice true true r true = refl
out_twice true true true false = refl
out_twice true true false false = refl
out_twice true false r e = refl
out_twice false s r e = refl

-- the members of list i after an edit of list p
edit_at : (ls ls' : List (List Txn)) (p i : ℕ) (L : List Txn) (u : ℕ) (f : Bool → Bool) → ls' ≡ set ls p L → p < length ls → is_among u L ≡ f (is_among u (list_in ls p))
    → is_among u (list_in ls' i) ≡ cond (eqb i p) (f (is_among u (list_in ls i))) (is_among u (list_in ls i))
edit_at ls ls' p i L u f e lt own = ap (λ (k : List (List Txn)). is_among u (list_in k i)) e ∙ ap (is_among u) (set_tells ls p i L lt) ∙ elim (eqb_tells i p) [
  | inl q ↦ ap (λ (b : Bool). is_among u (cond b L (list_in ls i))) q.0 ∙ own ∙ ap (λ (k : ℕ). f (is_among u (list_in ls k))) (sym q.1)
      ∙ sym (ap (λ (b : Bool). cond b (f (is_among u (list_in ls i))) (is_among u (list_in ls i))) q.0)
  | inr q ↦ ap (λ (b : Bool). is_among u (cond b L (list_in ls i))) q.0 ∙ sym (ap (λ (b : Bool). cond b (f (is_among u (list_in ls i))) (is_among u (list_in ls i))) q.0)
]

pub held_more : (z : Touch) (zs : List Touch) → puts_held (z ∷ zs) ≡ cond (holds_put z) 1 0 + puts_held zs
held_more z zs = sum_by-cons (λ y. cond (holds_put y) 1 0) z zs

module _ (t : Txn) (a b c : Numbered Txn) (all left rest : List Touch) (puts p : ℕ) where
  pub filing_skip : IsFiling t.0 a b all left puts → left ≡ touch.Read p ∷ rest → IsFiling t.0 a b all rest puts
  filing_skip h q = record {
    filed = h.filed;
    count = h.count;
    known = (subst (AreKnown (length a.lists)) q h.known).1;
    counted = (let e = ap puts_held q ∙ held_more (touch.Read p) rest in let k = h.counted in omega (arith, e, k));
    enough = (let e = ap puts_held q ∙ held_more (touch.Read p) rest in let k = h.enough in omega (arith, e, k));
    room = h.room;
    lists = λ i u. ap (λ (zs : List Touch). is_among u (list_in b.lists i) || (list_any (puts_here i) zs && eqb t.0 u)) (sym q) ∙ h.lists i u;
  }

  pub filing_put : (new : Bool) → IsFiling t.0 a b all left puts → left ≡ touch.Put p ∷ rest → c.lists ≡ set b.lists p (put_by number_of t (list_in b.lists p)) → b.spare ≡ c.spare + cond new 1 0
      → IsFiling t.0 a c all rest (puts + 1)
  filing_put new h q put spare =
      let k = (subst (AreKnown (length a.lists)) q h.known) in
      let n = h.count in
      let lt : p < length b.lists = omega (arith, k.0, n) in
      let e = ap puts_held q ∙ held_more (touch.Put p) rest in
      let one = at_most_one new in
      record {
        filed = set_ascends b.lists c.lists p _ put lt (ascending-put number_of t (list_in b.lists p) (h.filed p)) h.filed;
        count = ap length put ∙ length-set b.lists p _ ∙ h.count;
        known = k.1;
        counted = (let m = h.counted in omega (arith, e, m));
        enough = (let m = h.enough in omega (arith, e, m, one, spare));
        room = (let m = h.room in omega (arith, m, one, spare));
        lists = λ i u.
            ap (λ (x : Bool). x || (list_any (puts_here i) rest && eqb t.0 u))
            (edit_at b.lists c.lists p i _ u (λ x. x || eqb t.0 u) put lt (among_put t (list_in b.lists p) u) ∙ put_cond (eqb i p) (is_among u (list_in b.lists i)) (eqb t.0 u))
            ∙ in_twice (is_among u (list_in b.lists i)) (eqb i p) (list_any (puts_here i) rest) (eqb t.0 u)
            ∙ ap (λ (zs : List Touch). is_among u (list_in b.lists i) || (list_any (puts_here i) zs && eqb t.0 u)) (sym q) ∙ h.lists i u;
      }

module _ (t : Txn) (here : ℕ → Touch → Bool) (a b c : Numbered Txn) (all left rest : List Touch) (z : Touch) (p : ℕ) where
  -- an access of another kind changes nothing
  pub taking_skip : IsTaking t.0 here a b all left → left ≡ z ∷ rest → ((i : ℕ) → here i z ≡ false) → IsTaking t.0 here a b all rest
  taking_skip h q other = record {
    filed = h.filed;
    count = h.count;
    room = h.room;
    lists = λ i u. ap (λ (x : Bool). is_among u (list_in b.lists i) && not ((x || list_any (here i) rest) && eqb t.0 u)) (sym (other i))
        ∙ ap (λ (zs : List Touch). is_among u (list_in b.lists i) && not (list_any (here i) zs && eqb t.0 u)) (sym q) ∙ h.lists i u;
  }

  pub taking_one : IsTaking t.0 here a b all left → left ≡ z ∷ rest → ((i : ℕ) → here i z ≡ eqb i p) → c.lists ≡ set b.lists p (filter (λ v. not (eqb (number_of v) t.0)) (list_in b.lists p))
      → c.spare ≡ b.spare → p < length a.lists → IsTaking t.0 here a c all rest
  taking_one h q same take spare within =
      let n = h.count in
      let lt : p < length b.lists = omega (arith, within, n) in
      record {
        filed = set_ascends b.lists c.lists p _ take lt (ascending-filter number_of (λ x. not (eqb x.0 t.0)) (list_in b.lists p) (h.filed p)) h.filed;
        count = ap length take ∙ length-set b.lists p _ ∙ h.count;
        room = spare ∙ h.room;
        lists = λ i u.
            ap (λ (x : Bool). x && not (list_any (here i) rest && eqb t.0 u))
            (edit_at b.lists c.lists p i _ u (λ x. x && not (eqb t.0 u)) take lt (among_others t.0 (list_in b.lists p) u) ∙ take_cond (eqb i p) (is_among u (list_in b.lists i)) (eqb t.0 u))
            ∙ out_twice (is_among u (list_in b.lists i)) (eqb i p) (list_any (here i) rest) (eqb t.0 u)
            ∙ ap (λ (x : Bool). is_among u (list_in b.lists i) && not ((x || list_any (here i) rest) && eqb t.0 u)) (sym (same i))
            ∙ ap (λ (zs : List Touch). is_among u (list_in b.lists i) && not (list_any (here i) zs && eqb t.0 u)) (sym q) ∙ h.lists i u;
      }
