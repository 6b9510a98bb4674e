-- The order of commits, which is the serial order if the root ranks by it.
use Rattle.std.proofs.Common.{◌≡◌, ◌⊎◌, ℕ, suc, ◌<◌, ◌≤◌, Bool, true, false, List, [], ◌∷◌, ◌++◌, refl, sym, subst, subst₂, inl, inr, arith, length, eqb, ltb, lt-ltb, eqb-true, eq-eqb, flat_map}
use Rattle.std.proofs.lemmas.Bool.{both_ways, or_left}
use Rattle.teb_rules.specs.declared.history.Event.{Event}
use Rattle.teb_rules.specs.declared.history.Event.TheVariants.{Began, Got, Put, Ready, Done, Gone, Told}
use Rattle.teb_rules.specs.history.Phases.{is_done, began_at, done_at, spot_of, unfinished}
use Rattle.teb_rules.specs.history.Positions.{newest, first_event, upto}
use Rattle.teb_rules.specs.declared.names.Txn.{Txn}
use Rattle.teb_rules.specs.declared.names.ControlKind.TheVariants.{Locks, Pipeline}
use Rattle.teb_rules.specs.Ranks.{key, lex, rank, serially, serial_order}
use Rattle.teb_rules.specs.Serializes.{In, Pairs}
use Rattle.teb_rules.specs.Setup.{Setup}
use Rattle.teb_rules.specs.Tree.{path, row, side}
use Rattle.teb_rules.specs.laws.Lawful.{Lawful, MayCommit}
use Rattle.teb_rules.specs.laws.TreeFacts.{TreeFacts}
use Rattle.teb_rules.proofs.lemmas.laws.Lists.{In-append_left, In-append_right, In-append_cases, Pairs-weaker, sorted_unique}
use Rattle.teb_rules.proofs.lemmas.laws.Meeting.{Rooted, path_good}
use Rattle.teb_rules.proofs.lemmas.laws.Positions.{first_cases, before, now, later, upto_all}
use Rattle.teb_rules.proofs.lemmas.laws.Ranks.{commits, done_rank}
use Rattle.teb_rules.proofs.lemmas.laws.Serial.{Commits, serial_strict, order_each, order_all, order_sorted, Pairs-append}
use Rattle.teb_rules.proofs.lemmas.laws.Timeline.{kind-lt, unfinished-upto}

-- the committed transactions in the order of their commits
abbrev pub committed_in : List Event → List ℕ
committed_in [] = []
committed_in (Done t ∷ P) = committed_in P ++ t.0 ∷ []
committed_in (_ ∷ P) = committed_in P

done_kept : (e : Event) (P : List Event) (t : ℕ) → done_at P t < length P → done_at (e ∷ P) t ≡ done_at P t
unfolding done_at first_event
done_kept e P t h = elim (first_cases (newest (is_done t)) e P) [ before a b ↦ b | now a b c ↦ absurd (omega arith) | later a b c ↦ absurd (omega arith) ]

-- if t is committed after an event that is not its Done, it was committed before it
still_open : (e : Event) (P : List Event) (t : ℕ) → is_done t e ≡ false → done_at (e ∷ P) t < suc (length P) → done_at P t < length P
unfolding done_at first_event
still_open e P t f h = elim (first_cases (newest (is_done t)) e P) [ before a b ↦ a | now a b c ↦ absurd (both_ways _ f b) | later a b c ↦ absurd (omega arith) ]

done_now : (e : Event) (P : List Event) (t : ℕ) → is_done t e ≡ true → done_at (e ∷ P) t < suc (length P)
unfolding done_at first_event
done_now e P t f = elim (first_cases (newest (is_done t)) e P) [ before a b ↦ omega arith | now a b c ↦ omega arith | later a b c ↦ absurd (both_ways _ b f) ]

done_later : (e : Event) (P : List Event) (t : ℕ) → done_at P t < length P → done_at (e ∷ P) t < suc (length P)
done_later e P t h = let q = done_kept e P t h in omega arith

pub committed-In : (H : List Event) (t : ℕ) → In t (committed_in H) → Commits H t
committed-In [] t i = absurd i
committed-In (Done u ∷ P) t i = elim (In-append_cases t (committed_in P) (u.0 ∷ []) i) [
  | inl j ↦ done_later (Done u) P t (committed-In P t j)
  | inr j ↦ elim j [ inl e ↦ done_now (Done u) P t (eq-eqb u.0 t e) | inr k ↦ absurd k ]
]
committed-In (Began u s k n ∷ P) t i = done_later (Began u s k n) P t (committed-In P t i)
committed-In (Got u x w v ∷ P) t i = done_later (Got u x w v) P t (committed-In P t i)
committed-In (Put u x v ∷ P) t i = done_later (Put u x v) P t (committed-In P t i)
committed-In (Ready u ∷ P) t i = done_later (Ready u) P t (committed-In P t i)
committed-In (Gone u c ∷ P) t i = done_later (Gone u c) P t (committed-In P t i)
committed-In (Told u ∷ P) t i = done_later (Told u) P t (committed-In P t i)

pub In-committed : (H : List Event) (t : ℕ) → Commits H t → In t (committed_in H)
In-committed [] t h = absurd (omega arith)
In-committed (Done u ∷ P) t h = go (eqb u.0 t) refl (In-committed P t)
  where
    go : (b : Bool) → eqb u.0 t ≡ b → (Commits P t → In t (committed_in P)) → In t (committed_in P ++ u.0 ∷ [])
    go true e ih = In-append_right t (committed_in P) (u.0 ∷ []) (inl (eqb-true u.0 t e))
    go false e ih = In-append_left t (committed_in P) (u.0 ∷ []) (ih (still_open (Done u) P t e h))
In-committed (Began u s k n ∷ P) t h = In-committed P t (still_open (Began u s k n) P t refl h)
In-committed (Got u x w v ∷ P) t h = In-committed P t (still_open (Got u x w v) P t refl h)
In-committed (Put u x v ∷ P) t h = In-committed P t (still_open (Put u x v) P t refl h)
In-committed (Ready u ∷ P) t h = In-committed P t (still_open (Ready u) P t refl h)
In-committed (Gone u c ∷ P) t h = In-committed P t (still_open (Gone u c) P t refl h)
In-committed (Told u ∷ P) t h = In-committed P t (still_open (Told u) P t refl h)

-- the Done of t is before that of u
abbrev DoneFirst : List Event → ℕ → ℕ → Type 0
DoneFirst H t u = done_at H t < done_at H u

rising_kept : (e : Event) (P : List Event) → Pairs (DoneFirst P) (committed_in P) → Pairs (DoneFirst (e ∷ P)) (committed_in P)
rising_kept e P h = Pairs-weaker (DoneFirst P) (DoneFirst (e ∷ P)) (committed_in P)
    (λ t u i j l. let q = done_kept e P t (committed-In P t i) in let r = done_kept e P u (committed-In P u j) in omega arith) h

not_before : (S : Setup) (P : List Event) (t : ℕ) → MayCommit S P t → done_at P t < length P → ⊥
not_before S P t m h =
    let all : upto (length P) P ≡ P = upto_all (length P) P (let z : length P ≤ length P = omega arith in z) in
    let u = unfinished-upto P (length P) t (let z : length P ≤ length P = omega arith in z) (subst (λ (z : List Event). unfinished z t ≡ true) (sym all) m.unfinished) in
    let unended : length P ≤ done_at P t = u.1 in omega arith

-- a transaction that commits now is after all that have committed
done_last : (S : Setup) (P : List Event) (u : Txn) (t : ℕ) → MayCommit S P u.0 → done_at P t < length P → done_at (Done u ∷ P) t < done_at (Done u ∷ P) u.0
unfolding done_at first_event
done_last S P u t m h =
    let q = done_kept (Done u) P t h in
    elim (first_cases (newest (is_done u.0)) (Done u) P) [
      | before a b ↦ absurd (not_before S P u.0 m a)
      | now a b c ↦ omega arith
      | later a b c ↦ omega arith
    ]

rising : (S : Setup) (H : List Event) → Lawful S H → Pairs (DoneFirst H) (committed_in H)
unfolding Lawful
rising S [] l = tt
rising S (Done u ∷ P) l = Pairs-append (DoneFirst (Done u ∷ P)) (committed_in P) (u.0 ∷ []) (rising_kept (Done u) P (rising S P l.1)) ((λ t i. absurd i), tt)
    (λ t w i j. elim j [ inl e ↦ subst (λ (z : ℕ). DoneFirst (Done u ∷ P) t z) e (done_last S P u t l.0 (committed-In P t i)) | inr k ↦ absurd k ])
rising S (Began u s k n ∷ P) l = rising_kept (Began u s k n) P (rising S P l.1)
rising S (Got u x w v ∷ P) l = rising_kept (Got u x w v) P (rising S P l.1)
rising S (Put u x v ∷ P) l = rising_kept (Put u x v) P (rising S P l.1)
rising S (Ready u ∷ P) l = rising_kept (Ready u) P (rising S P l.1)
rising S (Gone u c ∷ P) l = rising_kept (Gone u c) P (rising S P l.1)
rising S (Told u ∷ P) l = rising_kept (Told u) P (rising S P l.1)

-- the root ranks by commits
abbrev pub RootRanksByCommits : Setup → Type 0
RootRanksByCommits S = ((row S.tree 0).control ≡ Locks) ⊎ ((row S.tree 0).control ≡ Pipeline)

head_less : (f g h k : ℕ → ℕ) (xs ys : List ℕ) → Rooted xs → Rooted ys → f 0 < h 0 → lex (flat_map (λ n. f n ∷ g n ∷ []) xs) (flat_map (λ n. h n ∷ k n ∷ []) ys) ≡ true
unfolding lex
head_less f g h k [] ys p q r = absurd p
head_less f g h k (x ∷ xs) [] p q r = absurd q
head_less f g h k (x ∷ xs) (y ∷ ys) p q r = or_left (ltb (f x) (h y)) _ (lt-ltb _ _ (subst₂ (λ (m n : ℕ). f m < h n) (sym p) (sym q) r))

-- a transaction of smaller rank at the root is earlier in the serial order
pub serial_from_root : (S : Setup) (a : TreeFacts S) (H : List Event) (t u : ℕ) → Lawful S H → Commits H t → Commits H u → rank S H 0 t < rank S H 0 u → serially S H t u ≡ true
unfolding serially key
serial_from_root S a H t u l dt du r =
    let bt : began_at H t < length H = (let z = commits S H t l dt in omega arith) in
    let bu : began_at H u < length H = (let z = commits S H u l du in omega arith) in
    head_less (λ n. rank S H n t) (λ n. side S H n t) (λ n. rank S H n u) (λ n. side S H n u) (path S.tree (spot_of H t)) (path S.tree (spot_of H u))
    (path_good S a (spot_of H t) (kind-lt S H t l bt)).rooted (path_good S a (spot_of H u) (kind-lt S H u l bu)).rooted r

serially_done : (S : Setup) (a : TreeFacts S) (H : List Event) → Lawful S H → RootRanksByCommits S → (t u : ℕ) → Commits H t → Commits H u → done_at H t < done_at H u → serially S H t u ≡ true
serially_done S a H l c t u dt du h = serial_from_root S a H t u l dt du (let p = done_rank S H 0 t c in let q = done_rank S H 0 u c in omega arith)

pub order_of_commits : (S : Setup) (a : TreeFacts S) (H : List Event) → Lawful S H → RootRanksByCommits S → serial_order S H ≡ committed_in H
order_of_commits S a H l c = sorted_unique (serially S H) (Commits H) (serial_strict S a H l) (serial_order S H) (committed_in H)
    (order_each S a H l) (committed-In H) (order_sorted S a H l)
    (Pairs-weaker (DoneFirst H) (λ t u. serially S H t u ≡ true) (committed_in H) (λ t u i j d. serially_done S a H l c t u (committed-In H t i) (committed-In H u j) d) (rising S H l))
    (λ t i. In-committed H t (order_each S a H l t i)) (λ t i. order_all S a H l t (committed-In H t i))
