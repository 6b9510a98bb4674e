-- What a book that holds the batches of a history says about it, and the effect of the next event on the book.
use Rattle.std.proofs.Common.{◌≡◌, ℕ, suc, ◌<◌, Bool, true, false, cond, not, ◌&&◌, eqb, List, [], ◌∷◌, length, map, find, filter, Some, refl, sym, ◌∙◌, ap, subst, inl, inr, arith, eq-eqb}
use Rattle.std.specs.List.{list_any}
use Rattle.std.proofs.lemmas.Bool.{cases_Bool, both_ways, and_from, false_from_ne_true, eqb-true, or_cases, or_left, or_right}
use Rattle.teb_rules.specs.declared.history.Event.{Event}
use Rattle.teb_rules.specs.declared.history.Event.TheVariants.{Began, Got, Put, Ready, Done, Gone, Told}
use Rattle.teb_rules.specs.history.Phases.{begun, begun_count, unfinished, txns, numbers}
use Rattle.teb_rules.specs.Setup.{Setup}
use Rattle.teb_rules.specs.Serializes.{In}
use Rattle.teb_rules.specs.Tree.{row, has_batches, leaf, on, side_at}
use Rattle.teb_rules.specs.Stops.{on_begin}
use Rattle.teb_rules.specs.Verdicts.{wait_for}
use Rattle.teb_rules.specs.declared.Verdict.TheVariants.{Go}
use Rattle.teb_rules.specs.declared.names.Spot.{Spot}
use Rattle.teb_rules.specs.laws.Lawful.{Granted, Lawful}
use Rattle.teb_rules.proofs.lemmas.laws.Serial.{filter-In, In-filter}
use Rattle.batch_book.specs.Book.{Row, Running, Book, full_on, AllBelow, IsNew, has_joined, rows_joined, running_joined, rows_finished, running_finished}
use Rattle.batch_book.specs.Histories.{IsNumbered, MayCome, Joins, Finishes, Passes, BatchesOf, full_at, admitted, members, row_of, running_of, rows_in, running_in}
use Rattle.batch_book.proofs.Numbered.{begun_bounds, In-txns_begun, txns-In}
use Rattle.batch_book.proofs.Joining.{running_began, rows_began}
use Rattle.batch_book.proofs.Finishing.{finished, finish_no_begin, steady_kept, running_done, rows_kept, passed}
use Rattle.batch_book.proofs.Fullness.{full_running}

pub batches_none : (b : Book) (S : Setup) (n : ℕ) → b.rows ≡ [] → b.running ≡ [] → BatchesOf b S [] n
unfolding IsNumbered txns begun_count
batches_none b S n r q = record { numbered = tt; rows = r ∙ none; running = q ∙ none_running }
  where
    none : [] ≡ rows_in S [] n
    none = unfold numbers in refl

    none_running : [] ≡ running_in S [] n
    none_running = unfold numbers in refl

number_it : (P : List Event) (e : Event) → MayCome P e → IsNumbered P → IsNumbered (e ∷ P)
unfolding IsNumbered
number_it P e m l = (m, l)

-- a book with the rows of the joined one represents the history with the Began
pub batches_joined : (b c : Book) (S : Setup) (P : List Event) (n : ℕ) (e : Event) (s t at : ℕ) → BatchesOf b S P n → MayCome P e → Joins S n s t e → at ≡ length P →
    c.rows ≡ rows_joined b.running b.rows s t at → c.running ≡ running_joined b.running s t at → BatchesOf c S (e ∷ P) n
batches_joined b c S P n (Began u z k i) s t at h m j q r w =
    let T : t ≡ u.0 = sym j.0 in
    let A : s ≡ side_at S.tree n (record { kind = k; instance = i }) u.0 = sym j.2 ∙ ap (side_at S.tree n (record { kind = k; instance = i })) T in
    record {
      numbered = number_it P (Began u z k i) m h.numbered;
      rows = r ∙ (λ v. rows_joined (h.running v) (h.rows v) (A v) (T v) (q v)) ∙ sym (rows_began S P n u z k i h.numbered m j.1);
      running = w ∙ (λ v. running_joined (h.running v) (A v) (T v) (q v)) ∙ sym (running_began S P n u z k i h.numbered m j.1);
    }
batches_joined b c S P n _ s t at h m j q r w = absurd j

pub batches_finished : (b c : Book) (S : Setup) (P : List Event) (n : ℕ) (e : Event) (t at : ℕ) → BatchesOf b S P n → MayCome P e → Finishes t e → at ≡ length P →
    c.rows ≡ rows_finished b.running b.rows t at → c.running ≡ running_finished b.running t → BatchesOf c S (e ∷ P) n
batches_finished b c S P n e t at h m f q r w =
    let l = h.numbered in
    let k = finish_no_begin t e f in
    let d = running_done S P n e l m t k (finished t e P f) in
    record {
      numbered = number_it P e m l;
      rows = r ∙ (λ v. rows_finished (h.running v) (h.rows v) t (q v)) ∙ sym (rows_kept S P n e l m (steady_kept S P n e l m k) (running_finished (running_in S P n) t) d);
      running = w ∙ ap (λ (rs : List Running). running_finished rs t) h.running ∙ sym d;
    }

-- an event that does not concern the node leaves the book valid
pub batches_passed : (b : Book) (S : Setup) (P : List Event) (n : ℕ) (e : Event) → BatchesOf b S P n → MayCome P e → Passes S P n e → BatchesOf b S (e ∷ P) n
batches_passed b S P n e h m p =
    let r = passed S P n e h.numbered m p in
    record { numbered = number_it P e m h.numbered; rows = h.rows ∙ sym r.1; running = h.running ∙ sym r.0 }

below_map : {A : Type 0} (f : ℕ → A) (key : A → ℕ) (n : ℕ) (us : List ℕ) → ((u : ℕ) → In u us → key (f u) < n) → AllBelow key n (map f us)
below_map f key n [] h = tt
below_map f key n (u ∷ us) h = (h u (inl refl), below_map f key n us (λ v i. h v (inr i)))

-- the next transaction is new
pub next_new : (b : Book) (S : Setup) (P : List Event) (n t : ℕ) → BatchesOf b S P n → t ≡ suc (begun_count P) → IsNew b t
next_new b S P n t h q = record {
  rows = subst (AllBelow (λ (r : Row). r.txn) t) (sym h.rows) (below_map (row_of S P n) (λ (r : Row). r.txn) t (members S P n) (λ u i. small u (filter-In (on S P n) u (txns P) i).0));
  running = subst (AllBelow (λ (r : Running). r.txn) t) (sym h.running) (below_map (running_of S P n) (λ (r : Running). r.txn) t (filter (unfinished P) (members S P n))
      (λ u i. small u (filter-In (on S P n) u (txns P) (filter-In (unfinished P) u (members S P n) i).0).0));
}
  where
    small : (u : ℕ) → In u (txns P) → u < t
    small u i = let z = (begun_bounds P u h.numbered (In-txns_begun P u h.numbered i)).1 in omega arith

-- a transaction that has begun, with the node on its path, has joined
pub joined_from : (b : Book) (S : Setup) (H : List Event) (n t : ℕ) → BatchesOf b S H n → begun H t ≡ true → on S H n t ≡ true → has_joined b t ≡ true
joined_from b S H n t h g o = ap (list_any (λ (r : Row). eqb r.txn t)) h.rows ∙ there (members S H n) (In-filter (on S H n) t (txns H) (txns-In H t h.numbered g) o)
  where
    there : (us : List ℕ) → In t us → list_any (λ (r : Row). eqb r.txn t) (map (row_of S H n) us) ≡ true
    there [] i = absurd i
    there (u ∷ us) i = elim i [ inl q ↦ or_left (eqb u t) _ (eq-eqb u t q) | inr j ↦ or_right (eqb u t) _ (there us j) ]

-- only such a transaction has joined
pub joined_began : (b : Book) (S : Setup) (H : List Event) (n t : ℕ) → BatchesOf b S H n → has_joined b t ≡ true → (begun H t ≡ true) × (on S H n t ≡ true)
joined_began b S H n t h j =
    let i = there (members S H n) (sym (ap (list_any (λ (r : Row). eqb r.txn t)) h.rows) ∙ j) in
    let f = filter-In (on S H n) t (txns H) i in
    (In-txns_begun H t h.numbered f.0, f.1)
  where
    there : (us : List ℕ) → list_any (λ (r : Row). eqb r.txn t) (map (row_of S H n) us) ≡ true → In t us
    there [] h = absurd (cc)
    there (u ∷ us) h = elim (or_cases (eqb u t) _ h) [ inl q ↦ inl (eqb-true u t q) | inr q ↦ inr (there us q) ]

-- a transaction has joined if and only if it has begun and the node is on its path
pub joined_tells : (b : Book) (S : Setup) (H : List Event) (n t : ℕ) → BatchesOf b S H n → has_joined b t ≡ (begun H t && on S H n t)
joined_tells b S H n t h = go (begun H t) (on S H n t) refl refl
  where
    nobody : (begun H t && on S H n t) ≡ false → has_joined b t ≡ false
    nobody f = false_from_ne_true _ (λ j. let p = joined_began b S H n t h j in both_ways _ f (and_from _ _ p.0 p.1))

    go : (g o : Bool) → begun H t ≡ g → on S H n t ≡ o → has_joined b t ≡ (g && o)
    go true true p q = joined_from b S H n t h p q
    go true false p q = nobody ((λ j. p j && q j))
    go false o p q = nobody ((λ j. p j && q j))

-- for a transaction that has begun, the node is on its path if and only if it has joined
pub on_joined : (b : Book) (S : Setup) (H : List Event) (n t : ℕ) → BatchesOf b S H n → begun H t ≡ true → on S H n t ≡ has_joined b t
on_joined b S H n t h g = sym (joined_tells b S H n t h ∙ ap (λ (z : Bool). z && on S H n t) g)

-- the row of t is that of its batch in the history
pub row_tells : (b : Book) (S : Setup) (H : List Event) (n t : ℕ) (r : Row) → BatchesOf b S H n → find (λ (r : Row). eqb r.txn t) b.rows ≡ Some r → r ≡ row_of S H n t
row_tells b S H n t r h f = go (members S H n) (ap (find (λ (r : Row). eqb r.txn t)) (sym h.rows) ∙ f)
  where
    go : (us : List ℕ) → find (λ (r : Row). eqb r.txn t) (map (row_of S H n) us) ≡ Some r → r ≡ row_of S H n t
    go [] e = absurd (cc)
    go (u ∷ us) e = elim (cases_Bool (eqb u t)) [
      | inl q ↦ (let p : Some (row_of S H n u) ≡ Some r = rw q at e in let w : row_of S H n u ≡ r = cc in sym w ∙ ap (row_of S H n) (eqb-true u t q))
      | inr q ↦ go us (rw q at e)
    ]

-- the running rows tell whether the batch of a side is full
pub full_tells : (b : Book) (S : Setup) (H : List Event) (n s : ℕ) → BatchesOf b S H n → full_on b.size s b.running ≡ full_at S H n s b.size
full_tells b S H n s h = ap (full_on b.size s) h.running ∙ full_running S H n s b.size h.numbered

-- every lawful history is numbered
pub lawful_numbered : (S : Setup) (H : List Event) → Lawful S H → IsNumbered H
unfolding Lawful IsNumbered
lawful_numbered S [] l = tt
lawful_numbered S (e ∷ P) l = (may e l.0, lawful_numbered S P l.1)
  where
    may : (e : Event) → Granted S P e → MayCome P e
    may (Began t s k i) g = g.0
    may (Got t x w v) g = tt
    may (Put t x v) g = tt
    may (Ready t) g = tt
    may (Done t) g = g.unfinished
    may (Gone t c) g = g
    may (Told t) g = tt

-- a Begin at an inner node with batches waits if and only if its side's batch is full
pub begin_waits : (S : Setup) (H : List Event) (s : Spot) (n : ℕ) → on_begin S H s n ≡ cond (has_batches S.tree n && not (eqb n (leaf S.tree s)))
    (wait_for (full_at S H n (side_at S.tree n s 0) (row S.tree n).batch)) Go
unfolding on_begin full_at admitted
begin_waits S H s n = refl
