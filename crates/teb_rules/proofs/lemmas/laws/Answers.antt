-- Every answer leaves a lawful and settled history.
use Rattle.std.proofs.Common.{◌≡◌, ℕ, zero, suc, ◌+◌, ◌<◌, ◌≤◌, Bool, true, false, cond, not, eqb, ltb, List, [], ◌∷◌, Option}
use Rattle.std.proofs.Common.{Some, None, refl, sym, ◌∙◌, subst, inl, inr, arith, ℤ, length, ltb-true, lt-ltb, le-ltb, eqb-true}
use Rattle.std.proofs.lemmas.Bool.{both_ways, false_from_ne_true, and_parts, or_cases, not-true, eqb-false}
use Rattle.teb_rules.specs.declared.names.Txn.{Txn}
use Rattle.teb_rules.specs.declared.names.Cell.{Cell}
use Rattle.teb_rules.specs.declared.history.Event.{Event}
use Rattle.teb_rules.specs.declared.history.Event.TheVariants.{Got, Put, Ready, Done}
use Rattle.teb_rules.specs.history.Accesses.{read_from, is_from}
use Rattle.teb_rules.specs.history.Phases.{txns, gone_at, aborted, unfinished, kind_of, prepared, is_gone}
use Rattle.teb_rules.specs.history.Positions.{first, newest, first_event}
use Rattle.teb_rules.specs.laws.Lawful.{Granted, Lawful, MayAccess, Settled}
use Rattle.teb_rules.specs.laws.TreeFacts.{TreeFacts}
use Rattle.teb_rules.specs.Answer.{Answered, refuse, or_stop, fits, put_value, got_value, added, or_refused, answer_of}
use Rattle.teb_rules.specs.Cascade.{txn, abort}
use Rattle.teb_rules.specs.Controls.{on_access, validate}
use Rattle.teb_rules.specs.Setup.{Store, Setup, among, profile}
use Rattle.teb_rules.specs.Steps.{least_step, cursor}
use Rattle.teb_rules.specs.Stops.{stop_with, stop_of, on_commit, nodes_of, access_stop, prepare_stop, commit_stop}
use Rattle.teb_rules.specs.Tree.{row, on, on_path}
use Rattle.teb_rules.specs.declared.Verdict.{Verdict}
use Rattle.teb_rules.specs.declared.Verdict.TheVariants.{Go, Wait, Break}
use Rattle.teb_rules.specs.declared.Stop.{Stop}
use Rattle.teb_rules.specs.declared.Stop.TheVariants.{Go as Free, Wait as Waits, Break as Breaks}
use Rattle.teb_rules.specs.Versions.{sees, source, version, value_left, read}
use Rattle.teb_rules.specs.Verdicts.{cause_at}
use Rattle.teb_rules.specs.Answer.{broken_off}
use Rattle.teb_rules.specs.declared.names.Reply.TheVariants.{Again}
use Rattle.teb_rules.proofs.lemmas.laws.Timeline.{unfinished-upto, begun_counted}
use Rattle.teb_rules.proofs.lemmas.laws.Serial.{filter-In}
use Rattle.teb_rules.proofs.lemmas.laws.ReadRule.{read_case, latest-some, from_own, from_seen, from_row, sees_parts}
use Rattle.std.proofs.Common.{is_none, is_some, ◌+ℤ◌}
use Rattle.std.specs.List.{list_any}
use Rattle.teb_rules.specs.declared.names.Cause.{Cause}
use Rattle.teb_rules.specs.declared.names.Cause.TheVariants.{Newer, Asked, Ended}
use Rattle.teb_rules.specs.declared.names.Request.{Request}
use Rattle.teb_rules.specs.declared.names.Request.TheVariants.{Begin, Read, Write, Add, Delete, Scan, Prepare, Commit, Abort, End}
use Rattle.teb_rules.specs.declared.names.Reply.TheVariants.{Prepared}
use Rattle.teb_rules.specs.declared.names.Refusal.TheVariants.{UnknownTable, NotInProfile, Range, Overflow}
use Rattle.teb_rules.specs.declared.names.Refusal.TheVariants.{Prepared as IsPrepared}
use Rattle.teb_rules.proofs.lemmas.laws.Timeline.{gone_granted}
use Rattle.teb_rules.proofs.lemmas.laws.Positions.{first_cases, before, now, later}
use Rattle.teb_rules.proofs.lemmas.laws.Scans.{got_go, got_on, got_prepared, got_step, got_unfinished, stands_on, unfinished_begun}
use Rattle.teb_rules.proofs.lemmas.laws.Timeline.{kind-lt}
use Rattle.teb_rules.specs.Accepted.{HasProfiles}
use Rattle.teb_rules.specs.Answer.{cells_from, is_scan, read_all, scan_values}
use Rattle.teb_rules.specs.Stops.{or_stop_of, scan_stop}

pub record Good (S : Setup) (H : List Event) : Type 0 where
  pub legal : Lawful S H
  pub settled : Settled H

-- an event that is not a Gone aborts no transaction, and one that is not a Got reads from none
pub aborted_kept : (e : Event) (P : List Event) (u : ℕ) → is_gone u e ≡ false → aborted (e ∷ P) u ≡ aborted P u
unfolding aborted gone_at first_event
aborted_kept e P u h = elim (first_cases (newest (is_gone u)) e P) [
  | before a b ↦ lt-ltb _ _ (let z : first (newest (is_gone u)) (e ∷ P) < suc (length P) = omega arith in z) ∙ sym (lt-ltb _ _ a)
  | now a b c ↦ absurd (both_ways _ h b)
  | later a b c ↦ le-ltb _ _ (let z : suc (length P) ≤ first (newest (is_gone u)) (e ∷ P) = omega arith in z) ∙ sym (le-ltb _ _ (let z : length P ≤ first (newest (is_gone u)) P = omega arith in z))
]

settled_kept : (e : Event) (P : List Event) → ((u : ℕ) → is_gone u e ≡ false) → ((t w : ℕ) → is_from t w e ≡ true → aborted P w ≡ false) → Settled P → Settled (e ∷ P)
settled_kept e P g f s t w a r = aborted_kept e P w (g w) ∙ elim (or_cases (is_from t w e) (list_any (is_from t w) P) (unfold read_from in r)) [
  | inl q ↦ f t w q
  | inr q ↦ s t w (sym (aborted_kept e P t (g t)) ∙ a) (unfold read_from in q)
]

pub lawful_cons : (S : Setup) (e : Event) (P : List Event) → Granted S P e → Lawful S P → Lawful S (e ∷ P)
unfolding Lawful
lawful_cons S e P g l = (g, l)

pub plain_good : (S : Setup) (e : Event) (P : List Event) → Good S P → Granted S P e → ((u : ℕ) → is_gone u e ≡ false) → ((t w : ℕ) → is_from t w e ≡ false) → Good S (e ∷ P)
plain_good S e P g r a b = record { legal = lawful_cons S e P r g.legal; settled = settled_kept e P a (λ t w q. absurd (both_ways _ (b t w) q)) g.settled }

stop_with_free : (n : ℕ) (v : Verdict) (s : Stop) → stop_with n v s ≡ Free → (v ≡ Go) × (s ≡ Free)
stop_with_free n Go s h = (refl, h)
stop_with_free n (Wait u) s h = absurd (cc)
stop_with_free n (Break c) s h = absurd (cc)

stop_all : (f : ℕ → Verdict) (ns : List ℕ) (n : ℕ) → stop_of f ns ≡ Free → among n ns ≡ true → f n ≡ Go
unfolding stop_of
stop_all f [] n h i = absurd (cc)
stop_all f (m ∷ ms) n h i = let r = stop_with_free m (f m) (stop_of f ms) h in
    elim (or_cases (eqb m n) (among n ms) i) [ inl e ↦ subst (λ (z : ℕ). f z ≡ Go) (eqb-true m n e) r.0 | inr j ↦ stop_all f ms n r.1 j ]

pub cond_good : (S : Setup) (b : Bool) (x y : Answered) → (b ≡ true → Good S x.1) → (b ≡ false → Good S y.1) → Good S (cond b x y).1
cond_good S true x y f g = f refl
cond_good S false x y f g = g refl

or_stop_good : (S : Setup) (H : List Event) (t : ℕ) (s : Stop) (granted : Answered) → Good S H → ((c : Cause) → Good S (abort H t c)) → (s ≡ Free → Good S granted.1) → Good S (or_stop H t s granted).1
or_stop_good S H t Free granted g a f = f refl
or_stop_good S H t (Waits u n) granted g a f = cond_good S (ltb t u.0) (broken_off H t (Newer n u)) (Again u n, H) (λ b. a (Newer n u)) (λ b. g)
or_stop_good S H t (Breaks n b) granted g a f = a (cause_at n b)

no_step : (o : Option ℕ) → is_none o ≡ false → is_some o ≡ true
no_step None h = absurd (cc)
no_step (Some s) h = refl

may_access : (S : Setup) (H : List Event) (t : ℕ) (x : Cell) (write : Bool) → Good S H → unfinished H t ≡ true → prepared H t ≡ false
    → is_none (least_step (profile S (kind_of H t)) (cursor S H t) x.table.0) ≡ false → access_stop S H t x write ≡ Free → MayAccess S H t x write
unfolding access_stop
may_access S H t x write g u p s f = record {
  unfinished = u;
  unprepared = p;
  step = no_step _ s;
  settled = g.settled;
  free = λ n o. stop_all (λ n. on_access (row S.tree n).control S H n t x write) (nodes_of S H t) n (f) (unfold on on_path in o);
}

-- 0 is not a transaction, so it is never aborted
zero_stands : (S : Setup) (H : List Event) → Lawful S H → aborted H 0 ≡ false
unfolding aborted
zero_stands S H l = false_from_ne_true _ (λ a.
    let h : gone_at H 0 < length H = ltb-true _ _ a in
    let u = unfinished-upto H (gone_at H 0) 0 (let z : gone_at H 0 ≤ length H = omega arith in z) (gone_granted S H 0 l h) in
    let z = (begun_counted S H 0 l (let y = u.0 in omega arith)).0 in absurd (omega arith))

got_settles : (S : Setup) (H : List Event) (t : ℕ) (x : Cell) (w : ℕ) (v : Option ℤ) → Lawful S H → source S H t x ≡ w → (s u : ℕ) → is_from s u (Got (txn t) x (txn w) v) ≡ true → aborted H u ≡ false
got_settles S H t x w v l e s u q =
    let p = and_parts _ _ q in
    let r = and_parts _ _ p.0 in
    let a : t ≡ s = eqb-true t s r.0 in
    let b : w ≡ u = eqb-true w u r.1 in
    let ne = eqb-false s u (not-true _ p.1) in
    elim (read_case S H t x w e) [
      | from_own f o ↦ absurd (ne (sym a ∙ sym o ∙ b))
      | from_row f o y ↦ subst (λ (z : ℕ). aborted H z ≡ false) (sym y ∙ b) (zero_stands S H l)
      | from_seen f o ↦ (let i = (latest-some S H x _ w o).0 in let m = sees_parts S H x t w (filter-In (sees S H x t) w (txns H) i).1 in subst (λ (z : ℕ). aborted H z ≡ false) b m.2)
    ]

access_good : (X : Store) (H : List Event) (t : ℕ) (x : Cell) (granted : Answered) → Good X.setup H
    → (prepared H t ≡ false → is_none (least_step (profile X.setup (kind_of H t)) (cursor X.setup H t) x.table.0) ≡ false → Good X.setup granted.1) → Good X.setup (or_refused X H t x granted).1
access_good X H t x granted g f =
    let inner = cond (is_none (least_step (profile X.setup (kind_of H t)) (cursor X.setup H t) x.table.0)) (refuse H NotInProfile) granted in
    cond_good X.setup (not (ltb x.table.0 X.tables)) (refuse H UnknownTable) (cond (prepared H t) (refuse H IsPrepared) inner) (λ a. g)
    (λ a. cond_good X.setup (prepared H t) (refuse H IsPrepared) inner (λ b. g)
    (λ b. cond_good X.setup (is_none (least_step (profile X.setup (kind_of H t)) (cursor X.setup H t) x.table.0)) (refuse H NotInProfile) granted (λ c. g) (λ c. f b c)))

put_good : (S : Setup) (H : List Event) (t : ℕ) (x : Cell) (v : Option ℤ) → Good S H → ((c : Cause) → Good S (abort H t c)) → unfinished H t ≡ true → prepared H t ≡ false
    → is_none (least_step (profile S (kind_of H t)) (cursor S H t) x.table.0) ≡ false → Good S (put_value S H t x v).1
put_good S H t x v g a u p s = or_stop_good S H t (access_stop S H t x true) _ g a (λ f. plain_good S (Put (txn t) x v) H g (may_access S H t x true g u p s f) (λ u. refl) (λ s w. refl))

-- the version of a writer, which is not 0, is the value that it left
written : (R : List (Cell × ℤ)) (H : List Event) (x : Cell) (w : ℕ) → 0 < w → version R H x w ≡ value_left H w x
written R H x zero h = absurd (omega arith)
written R H x (suc w) h = refl

got_good : (S : Setup) (R : List (Cell × ℤ)) (H : List Event) (t : ℕ) (x : Cell) → Good S H → MayAccess S H t x false → Good S (got_value H t x (read S R H t x)).1
unfolding read
got_good S R H t x g m =
    let w = source S H t x in
    let v = version R H x w in
    record {
      legal = lawful_cons S (Got (txn t) x (txn w) v) H (m, refl, written R H x w) g.legal;
      settled = settled_kept (Got (txn t) x (txn w) v) H (λ u. refl) (got_settles S H t x w v g.legal refl) g.settled;
    }

added_good : (S : Setup) (H : List Event) (t : ℕ) (x : Cell) (v : ℤ) (o : Option ℤ) → Good S H → ((z : Option ℤ) → Good S (put_value S H t x z).1) → Good S (added S H t x v o).1
added_good S H t x v None g f = g
added_good S H t x v (Some b) g f = cond_good S (fits (b +ℤ v)) (put_value S H t x (Some (b +ℤ v))) (refuse H Overflow) (λ q. f (Some (b +ℤ v))) (λ q. g)

-- each cell of a list has P
abbrev EachCell : (Cell → Type 0) → List Cell → Type 0
EachCell P [] = Unit {0}
EachCell P (x ∷ xs) = P x × EachCell P xs

each_cell : (P Q : Cell → Type 0) (xs : List Cell) → ((x : Cell) → P x → Q x) → EachCell P xs → EachCell Q xs
each_cell P Q [] f h = tt
each_cell P Q (x ∷ xs) f h = (f x h.0, each_cell P Q xs f h.1)

each_both : (P Q : Cell → Type 0) (xs : List Cell) → EachCell P xs → EachCell Q xs → EachCell (λ x. P x × Q x) xs
each_both P Q [] h k = tt
each_both P Q (x ∷ xs) h k = ((h.0, k.0), each_both P Q xs h.1 k.1)

one_table : (x : Cell) (a n : ℕ) → x.table.0 ≡ a → EachCell (λ y. y.table.0 ≡ a) (cells_from x n)
unfolding cells_from
one_table x a zero e = tt
one_table x a (suc n) e = (e, one_table (record { table = x.table; key = x.key + 1 }) a n e)

or_stop_free : (s r : Stop) → or_stop_of s r ≡ Free → (s ≡ Free) × (r ≡ Free)
or_stop_free Free r h = (refl, h)
or_stop_free (Waits u n) r h = absurd (cc)
or_stop_free (Breaks n b) r h = absurd (cc)

scan_free : (S : Setup) (H : List Event) (t : ℕ) (xs : List Cell) → scan_stop S H t xs ≡ Free → EachCell (λ y. access_stop S H t y false ≡ Free) xs
unfolding scan_stop
scan_free S H t [] h = tt
scan_free S H t (x ∷ xs) h = let p = or_stop_free (access_stop S H t x false) (scan_stop S H t xs) h in (p.0, scan_free S H t xs p.1)

-- t may read y after it has read x of the same table
may_read_on : (S : Setup) (a : TreeFacts S) → HasProfiles S → (H : List Event) (t : ℕ) (x y : Cell) (w : Txn) (v : Option ℤ) → Lawful S H → MayAccess S H t x false → MayAccess S H t y false
    → x.table.0 ≡ y.table.0 → Settled (Got (txn t) x w v ∷ H) → MayAccess S (Got (txn t) x w v ∷ H) t y false
may_read_on S a hp H t x y w v l m k e g =
    let s = some_is _ m.step in
    let b = unfinished_begun H t m.unfinished in
    let kt = kind-lt S H t l b in
    record {
      unfinished = got_unfinished (txn t) x w v H t ∙ k.unfinished;
      unprepared = got_prepared (txn t) x w v H t ∙ k.unprepared;
      step = got_step S t x y w v H s.0 e s.1;
      free = λ n o. got_go S (row S.tree n).control hp H t x y w v n s.0 kt (stands_on S a H t n kt (sym (got_on S (txn t) x w v H n t) ∙ o)) e s.1 (k.free n (sym (got_on S (txn t) x w v H n t) ∙ o));
      settled = g;
    }
  where
    some_is : (o : Option ℕ) → is_some o ≡ true → (s : ℕ) × (o ≡ Some s)
    some_is None h = absurd (cc)
    some_is (Some s) h = (s, refl)

-- scanning cells that t may read, all of table k, leaves the history good
read_all_good : (X : Store) (a : TreeFacts X.setup) → HasProfiles X.setup → (t k : ℕ) (xs : List Cell) (H : List Event) → Good X.setup H
    → EachCell (λ y. MayAccess X.setup H t y false × (y.table.0 ≡ k)) xs → Good X.setup (read_all X H t xs).1
unfolding read_all
read_all_good X a hp t k [] H g m = g
read_all_good X a hp t k (x ∷ xs) H g m =
    let r = read X.setup X.rows H t x in
    let g2 = got_good X.setup X.rows H t x g m.0.0 in
    read_all_good X a hp t k xs (Got (txn t) x (txn r.0) r.1 ∷ H) g2
    (each_cell (λ y. MayAccess X.setup H t y false × (y.table.0 ≡ k)) (λ y. MayAccess X.setup (Got (txn t) x (txn r.0) r.1 ∷ H) t y false × (y.table.0 ≡ k)) xs
    (λ y p. (may_read_on X.setup a hp H t x y (txn r.0) r.1 g.legal m.0.0 p.0 (m.0.1 ∙ sym p.1) g2.settled, p.1)) m.1)

scan_good : (X : Store) (a : TreeFacts X.setup) → HasProfiles X.setup → (H : List Event) (t : ℕ) (x : Cell) (n : ℕ) → Good X.setup H → ((c : Cause) → Good X.setup (abort H t c))
    → unfinished H t ≡ true → prepared H t ≡ false → is_none (least_step (profile X.setup (kind_of H t)) (cursor X.setup H t) x.table.0) ≡ false → Good X.setup (scan_values X H t x n).1
scan_good X a hp H t x n g ab u p s = or_stop_good X.setup H t (scan_stop X.setup H t (cells_from x n)) _ g ab (λ f.
    read_all_good X a hp t x.table.0 (cells_from x n) H g
    (each_cell (λ y. (access_stop X.setup H t y false ≡ Free) × (y.table.0 ≡ x.table.0)) (λ y. MayAccess X.setup H t y false × (y.table.0 ≡ x.table.0)) (cells_from x n)
    (λ y q. (may_access X.setup H t y false g u p (subst (λ (z : ℕ). is_none (least_step (profile X.setup (kind_of H t)) (cursor X.setup H t) z) ≡ false) (sym q.1) s) q.0, q.1))
    (each_both (λ y. access_stop X.setup H t y false ≡ Free) (λ y. y.table.0 ≡ x.table.0) (cells_from x n) (scan_free X.setup H t (cells_from x n) f) (one_table x x.table.0 n refl))))

pub answer_of_good : (X : Store) (a : TreeFacts X.setup) → HasProfiles X.setup → (H : List Event) (t : ℕ) (r : Request) → Good X.setup H → ((c : Cause) → Good X.setup (abort H t c))
    → unfinished H t ≡ true → Good X.setup (answer_of X H t r).1
unfolding answer_of
answer_of_good X tf hp H t (Begin k) g a u = g
answer_of_good X tf hp H t (Read x) g a u = access_good X H t x _ g
    (λ p s. or_stop_good X.setup H t (access_stop X.setup H t x false) _ g a (λ f. got_good X.setup X.rows H t x g (may_access X.setup H t x false g u p s f)))
answer_of_good X tf hp H t (Write x v) g a u = access_good X H t x _ g (λ p s. put_good X.setup H t x (Some v) g a u p s)
answer_of_good X tf hp H t (Add x v) g a u = access_good X H t x _ g (λ p s. added_good X.setup H t x v _ g (λ z. put_good X.setup H t x z g a u p s))
answer_of_good X tf hp H t (Delete x) g a u = access_good X H t x _ g (λ p s. put_good X.setup H t x None g a u p s)
answer_of_good X tf hp H t (Scan x n) g a u = access_good X H t x _ g (λ p s. cond_good X.setup (is_scan x n) (scan_values X H t x n) (refuse H Range) (λ q. scan_good X tf hp H t x n g a u p s)
    (λ q. g))
answer_of_good X tf hp H t Prepare g a u = cond_good X.setup (prepared H t) (refuse H IsPrepared) (or_stop H t (prepare_stop X.setup H t) (Prepared, Ready (txn t) ∷ H)) (λ p. g)
    (λ p. or_stop_good X.setup H t (prepare_stop X.setup H t) _ g a (λ f. plain_good X.setup (Ready (txn t)) H g
    (record {
      unfinished = u;
      unprepared = p;
      settled = g.settled;
      free = λ n o. stop_all (λ n. validate (row X.setup.tree n).control X.setup H n t) (nodes_of X.setup H t) n (unfold prepare_stop in f)
          (unfold on on_path in o);
    }) (λ u. refl) (λ s w. refl)))
answer_of_good X tf hp H t Commit g a u = or_stop_good X.setup H t (commit_stop X.setup H t) _ g a (λ f. plain_good X.setup (Done (txn t)) H g
    (record { unfinished = u; settled = g.settled; free = λ n o. stop_all (on_commit X.setup H t) (nodes_of X.setup H t) n (unfold commit_stop in f) (unfold on on_path in o) }) (λ u. refl)
    (λ s w. refl))
answer_of_good X tf hp H t Abort g a u = a Asked
answer_of_good X tf hp H t End g a u = a Ended
