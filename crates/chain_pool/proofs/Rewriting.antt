-- Overwriting the value of a version: the links stay sound, and its chain has the new value.
use Rattle.std.proofs.Common.{◌≡◌, ◌==◌, ℕ, zero, suc, ◌<◌, ◌≢◌, List, [], ◌∷◌, ◌++◌, length, get_or, take, drop, map, refl}
use Rattle.std.proofs.Common.{sym, ◌∙◌, ap, subst, inl, inr, arith, if◌then◌else◌, Option, Some, None, ℤ, unwrap_or}
use Rattle.std.specs.Option.{option_map}
use Rattle.std.proofs.lemmas.Bool.{cases_eq}
use Rattle.std.proofs.lemmas.List.{length-map}
use Rattle.teb_rules.specs.declared.names.Cell.{Cell}
use Rattle.teb_rules.specs.declared.names.Txn.{Txn}
use Rattle.version_chain.specs.Lists.{Version, set_value}
use Rattle.chain_pool.specs.declared.places.Version.{Version as Stored}
use Rattle.chain_pool.specs.declared.places.Place.{Place}
use Rattle.chain_pool.specs.declared.places.Head.{Head}
use Rattle.chain_pool.specs.Places.{Slot, slot_at, next_at, previous_at, sibling_at, cell_in, writer_in, pair_in, pair_at, with_value, InChain, IsOwned, IsFree}
use Rattle.chain_pool.specs.Linked.{Linked, versions, nth_place}
use Rattle.chain_pool.proofs.Threads.{thread-keep}
use Rattle.chain_pool.proofs.Rings.{ring-keep, places-ring-keep, steps-at}
use Rattle.chain_pool.proofs.Slots.{RingWith, ring-versions, map-agree, chosen, passed, one_chain}

-- the elements of a vector after all of them are overwritten
pub written : {X : Type 0} (n : ℕ) (new old : List X) → n ≡ length new → take n (new ++ drop (length new) old) ≡ new
written n new old is = ap (λ k. take k (new ++ drop (length new) old)) is ∙ front new (drop (length new) old)
  where
    front : {X : Type 0} (a b : List X) → take (length a) (a ++ b) ≡ a
    front [] b = refl
    front (x ∷ a) b = ap (λ l. x ∷ l) (front a b)

set_map : (f g : ℕ → Version) (L : List ℕ) (i : ℕ) (v : Option ℤ) → i < length L → g (get_or L i 0) ≡ ((f (get_or L i 0)).0, v) → ((j : ℕ) → j < length L → j ≢ i → g (get_or L j 0) ≡ f (get_or L j 0))
    → map g L ≡ set_value i v (map f L)
set_map f g [] i v lt here other = absurd (omega (arith, lt))
set_map f g (x ∷ L) zero v lt here other = ap (λ (w : Version). w ∷ map g L) here ∙ ap (λ l. ((f x).0, v) ∷ l) (map-agree g f L (λ j l. other (suc j) (omega (arith, l)) (omega arith)))
set_map f g (x ∷ L) (suc i) v lt here other =
    ap (λ (w : Version). w ∷ map g L) (other 0 (omega arith) (omega arith))
    ∙ ap (λ l. f x ∷ l) (set_map f g L i v (omega (arith, lt)) here (λ j l ne. other (suc j) (omega (arith, l)) (omega (arith, ne))))

-- a change of the value keeps the cell and the writer
same_cell_in : (o : Option Stored) (v : Option ℤ) → option_map (λ (w : Stored). w.cell) (option_map (λ (w : Stored). record { cell = w.cell; writer = w.writer; value = v }) o) ≡ option_map
    (λ (w : Stored). w.cell) o
same_cell_in None v = refl
same_cell_in (Some w) v = refl

same_writer_in : (o : Option Stored) (v : Option ℤ) → option_map (λ (w : Stored). w.writer) (option_map (λ (w : Stored). record { cell = w.cell; writer = w.writer; value = v }) o) ≡ option_map
    (λ (w : Stored). w.writer) o
same_writer_in None v = refl
same_writer_in (Some w) v = refl

module _ (ps ps' : List Place) (chain : Cell → Head) (own : Txn → Head) (unused : Head) (S : Linked ps chain own unused) (q : ℕ) (v : Option ℤ)
    (len : length ps' ≡ length ps)
    (next : (r : ℕ) → next_at ps' r ≡ next_at ps r) (previous : (r : ℕ) → previous_at ps' r ≡ previous_at ps r)
    (slots : (r : ℕ) → slot_at ps' r ≡ (if r == q then with_value (slot_at ps q) v else slot_at ps r)) where
  field_same : {X : Type 0} (f : Slot → X) → ((s : Slot) → f (with_value s v) ≡ f s) → (r : ℕ) → f (slot_at ps' r) ≡ f (slot_at ps r)
  field_same f h r = elim (cases_eq r q) [
    | inl e ↦ ap f (slots r ∙ chosen r q _ _ e) ∙ (h (slot_at ps q) ∙ ap (λ k. f (slot_at ps k)) (sym e))
    | inr ne ↦ ap f (slots r ∙ passed r q _ _ ne)
  ]

  cell_same : (r : ℕ) → cell_in (slot_at ps' r) ≡ cell_in (slot_at ps r)
  cell_same = field_same cell_in (λ s. same_cell_in s.version v)

  writer_same : (r : ℕ) → writer_in (slot_at ps' r) ≡ writer_in (slot_at ps r)
  writer_same = field_same writer_in (λ s. same_writer_in s.version v)

  sibling_same : (r : ℕ) → sibling_at ps' r ≡ sibling_at ps r
  sibling_same = field_same (λ s. s.sibling) (λ s. refl)

  chain_to : (x : Cell) (p : ℕ) → InChain ps x p → InChain ps' x p
  chain_to x p m = record { within = omega (arith, m.within, len); is_mine = cell_same p ∙ m.is_mine }

  chain_from : (x : Cell) (p : ℕ) → InChain ps' x p → InChain ps x p
  chain_from x p m = record { within = omega (arith, m.within, len); is_mine = sym (cell_same p) ∙ m.is_mine }

  owned_to : (t : Txn) (p : ℕ) → IsOwned ps t p → IsOwned ps' t p
  owned_to t p m = record { within = omega (arith, m.within, len); is_mine = writer_same p ∙ m.is_mine }

  owned_from : (t : Txn) (p : ℕ) → IsOwned ps' t p → IsOwned ps t p
  owned_from t p m = record { within = omega (arith, m.within, len); is_mine = sym (writer_same p) ∙ m.is_mine }

  none_none : (o : Option Stored) → option_map (λ (w : Stored). w.cell) o ≡ None → o ≡ None
  none_none None e = refl
  none_none (Some w) e = let z : Some w.cell ≡ None = e in cc

  free_to : (p : ℕ) → IsFree ps p → IsFree ps' p
  free_to p m = record { within = omega (arith, m.within, len); free = none_none _ (cell_same p ∙ ap (option_map (λ (w : Stored). w.cell)) m.free) }

  free_from : (p : ℕ) → IsFree ps' p → IsFree ps p
  free_from p m = record { within = omega (arith, m.within, len); free = none_none _ (sym (cell_same p) ∙ ap (option_map (λ (w : Stored). w.cell)) m.free) }

  chain_with : (x : Cell) → RingWith (InChain ps' x) (next_at ps') (previous_at ps') (chain x) (S.chains x).thread.places
  chain_with x = (
    ring-keep _ _ _ _ _ _ _ _ (S.chains x) (chain_to x) (chain_from x) (λ p m. next p) (λ p m. previous p),
    places-ring-keep _ _ _ _ _ _ _ _ (S.chains x) (chain_to x) (chain_from x) (λ p m. next p) (λ p m. previous p),
  )

  pub rewritten : Linked ps' chain own unused
  rewritten = record {
    chains = λ x. (chain_with x).0;
    owners = λ t. thread-keep _ _ _ _ _ _ (S.owners t) (owned_to t) (owned_from t) (λ p m. sibling_same p);
    frees = thread-keep _ _ _ _ _ _ S.frees free_to free_from (λ p m. sibling_same p);
    short = omega (arith, len, S.short);
    once = λ x t p r mp mr op or. S.once x t p r (chain_from x p mp) (chain_from x r mr) (owned_from t p op) (owned_from t r or);
  }

  module _ (cell : Cell) (i : ℕ) (within : i < length (versions ps (chain cell))) (h : Head) (is : h ≡ chain cell) (q_is : q ≡ nth_place ps h i) where
    old : (x : Cell) → versions ps (chain x) ≡ map (pair_at ps) (S.chains x).thread.places
    old x = ring-versions ps x (chain x) _ (S.chains x, refl)

    new : (x : Cell) → versions ps' (chain x) ≡ map (pair_at ps') (S.chains x).thread.places
    new x = ring-versions ps' x (chain x) _ (chain_with x)

    in_len : i < (chain cell).len
    in_len = omega (arith, ap length (old cell), length-map (S.chains cell).thread.places (pair_at ps), (S.chains cell).thread.count, within)

    at_q : get_or (S.chains cell).thread.places i 0 ≡ q
    at_q = sym (q_is ∙ (ap (λ (g : Head). nth_place ps g i) is ∙ steps-at _ _ _ _ _ (S.chains cell) i in_len))

    pair_same : (r : ℕ) → r ≢ q → pair_at ps' r ≡ pair_at ps r
    pair_same r ne = ap pair_in (slots r ∙ passed r q _ _ ne)

    q_mine : InChain ps cell q
    q_mine = subst (InChain ps cell) at_q ((S.chains cell).thread.inside i in_len)

    new_pair : (o : Option Stored) → option_map (λ (w : Stored). w.cell) o ≡ Some cell
        → unwrap_or {T = Version} (option_map (λ (w : Stored). (w.writer, w.value)) (option_map (λ (w : Stored). record { cell = w.cell; writer = w.writer; value = v }) o)) (record { 0 = 0 }, None)
        ≡ ((unwrap_or {T = Version} (option_map (λ (w : Stored). (w.writer, w.value)) o) (record { 0 = 0 }, None)).0, v)
    new_pair None e = let z : None ≡ Some cell = e in cc
    new_pair (Some w) e = refl

    here : pair_at ps' (get_or (S.chains cell).thread.places i 0) ≡ ((pair_at ps (get_or (S.chains cell).thread.places i 0)).0, v)
    here = ap pair_in (slots _ ∙ chosen _ q _ _ at_q) ∙ (new_pair (slot_at ps q).version q_mine.is_mine ∙ ap (λ k. ((pair_at ps k).0, v)) (sym at_q))

    pub rewritten_here : versions ps' (chain cell) ≡ set_value i v (versions ps (chain cell))
    rewritten_here = new cell ∙ (set_map (pair_at ps) (pair_at ps') (S.chains cell).thread.places i v (omega (arith, (S.chains cell).thread.count, in_len)) here
        (λ j lt ne. pair_same _ (λ e. ne ((S.chains cell).thread.distinct j i (omega (arith, (S.chains cell).thread.count, lt)) in_len (e ∙ sym at_q))))
        ∙ ap (set_value i v) (sym (old cell)))

    pub rewritten_else : (x : Cell) → cell ≢ x → versions ps' (chain x) ≡ versions ps (chain x)
    rewritten_else x ne = new x ∙ (map-agree (pair_at ps') (pair_at ps) _ (λ j lt. pair_same _ (λ e.
        ne (one_chain ps q cell x q_mine (subst (InChain ps x) e ((S.chains x).thread.inside j (omega (arith, (S.chains x).thread.count, lt))))))) ∙ sym (old x))
