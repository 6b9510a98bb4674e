-- The batch of a transaction as an interval of positions, and how two such intervals relate.
use Rattle.std.proofs.Common.{◌≡◌, ◌≢◌, ◌⊎◌, ℕ, zero, suc, ◌+◌, ◌-◌, ◌<◌, ◌≤◌, Bool, true, false, ◌&&◌, List, [], ◌∷◌, refl, sym, ◌∙◌, ap, subst, inl, inr, arith, length, ltb-true, lt-ltb, le_refl}
use Rattle.std.proofs.lemmas.Bool.{cases_lt, both_ways, cases_order, false_from_ne_true, and_parts, and_cases}
use Rattle.teb_rules.specs.declared.history.Event.{Event}
use Rattle.teb_rules.specs.declared.history.Event.TheVariants.{Began, Got, Put, Ready, Done, Gone, Told}
use Rattle.teb_rules.specs.history.Phases.{is_done, is_gone, began_at, done_at, gone_at, begun}
use Rattle.teb_rules.specs.history.Positions.{upto, newest, first_event}
use Rattle.teb_rules.specs.laws.Lawful.{Lawful}
use Rattle.teb_rules.specs.Batches.{idle, opens, start, close}
use Rattle.teb_rules.specs.Setup.{Setup}
use Rattle.teb_rules.specs.Tree.{on, side}
use Rattle.teb_rules.proofs.lemmas.laws.Positions.{first-le, first-holds, first_not}
use Rattle.teb_rules.proofs.lemmas.laws.Timeline.{event_first, unfinished-upto, begun-upto, done_order, gone_granted}
use Rattle.teb_rules.proofs.lemmas.laws.Batches.{idle_no, idle_someone, idle_from, opens_at, idle_next, StartsAt, starts_at}
use Rattle.teb_rules.specs.Tree.{below}

pub gone_order : (S : Setup) (H : List Event) (t : ℕ) → Lawful S H → gone_at H t < length H → began_at H t < gone_at H t
gone_order S H t l h = (unfinished-upto H (gone_at H t) t (let z : gone_at H t ≤ length H = omega arith in z) (gone_granted S H t l h)).0

-- between the start and t's Began the side is not idle
early : (S : Setup) (H : List Event) (n t d j : ℕ) → Lawful S H → began_at H t < length H → on S H n t ≡ true → StartsAt S H n t → began_at H t ≡ j + d → start S H n t < j →
    idle S (upto j H) n (side S H n t) ≡ true → ⊥
early S H n t zero j l b o s e h i =
    let q : j ≡ began_at H t = omega arith in
    both_ways _ (s.none_between (began_at H t) (let z : start S H n t < began_at H t = omega arith in z) (le_refl _))
    (opens_at S H n t l b o (subst (λ (z : ℕ). idle S (upto z H) n (side S H n t) ≡ true) q i))
early S H n t (suc d) j l b o s e h i =
    early S H n t d (suc j) l b o s (omega arith) (omega arith)
    (idle_next S H n (side S H n t) j l (let z : j < length H = omega arith in z) i (s.none_between j h (let z : j ≤ began_at H t = omega arith in z)))

-- the batch as an interval: the side is busy from just after the start up to the close, and idle at both ends
pub record Interval (S : Setup) (H : List Event) (n t : ℕ) : Type 0 where
  pub by_began : start S H n t ≤ began_at H t
  pub closes : began_at H t < close S H n t
  pub within : close S H n t ≤ length H
  pub idle_before : idle S (upto (start S H n t) H) n (side S H n t) ≡ true
  pub idle_after : close S H n t < length H → idle S (upto (suc (close S H n t)) H) n (side S H n t) ≡ true
  pub busy : (j : ℕ) → start S H n t < j → j ≤ close S H n t → idle S (upto j H) n (side S H n t) ≡ false

pub interval : (S : Setup) (H : List Event) (n t : ℕ) → Lawful S H → began_at H t < length H → on S H n t ≡ true → Interval S H n t
unfolding close
interval S H n t l b o =
    let s = starts_at S H n t l b o in
    let p = λ (P : List Event). begun P t && idle S P n (side S H n t) in
    record {
      by_began = s.by_began;
      closes = elim (cases_lt (began_at H t) (close S H n t)) [ inl r ↦ r | inr r ↦ absurd (late p refl r) ];
      within = first-le p H;
      idle_before = s.idle_before;
      idle_after = λ h. (and_parts _ _ (first-holds p H h)).1;
      busy = λ j a c. elim (cases_lt (began_at H t) j) [
        | inl r ↦ after p refl j r c
        | inr r ↦ false_from_ne_true _ (early S H n t (began_at H t - j) j l b o s (omega arith) a)
      ];
    }
  where
    there : (i : ℕ) → began_at H t < i → i ≤ length H → begun (upto i H) t ≡ true
    there i h k = begun-upto H i t k ∙ lt-ltb _ _ h

    after : (p : List Event → Bool) → p ≡ (λ (P : List Event). begun P t && idle S P n (side S H n t)) → (j : ℕ) → began_at H t < j → j ≤ close S H n t → idle S (upto j H) n (side S H n t) ≡ false
    after p q zero r c = absurd (omega arith)
    after p q (suc i) r c =
        let f = first_not (λ (P : List Event). begun P t && idle S P n (side S H n t)) H i (let z : suc i ≤ close S H n t = c in z) in
        let w : close S H n t ≤ length H = first-le (λ (P : List Event). begun P t && idle S P n (side S H n t)) H in
        elim (and_cases _ _ f) [ inl a ↦ absurd (both_ways _ a (there (suc i) r (let z : suc i ≤ length H = omega arith in z))) | inr a ↦ a ]

    late : (p : List Event → Bool) → p ≡ (λ (P : List Event). begun P t && idle S P n (side S H n t)) → close S H n t ≤ began_at H t → ⊥
    late p q r =
        let c : close S H n t < length H = omega arith in
        let f = and_parts _ _ (first-holds (λ (P : List Event). begun P t && idle S P n (side S H n t)) H c) in
        let a : began_at H t < suc (close S H n t) = ltb-true _ _ (sym (begun-upto H (suc (close S H n t)) t c) ∙ f.0) in
        let e : close S H n t ≡ began_at H t = omega arith in
        idle_no S H n (side S H n t) (suc (close S H n t)) t l c f.1
        (record {
          on_node = o;
          on_side = refl;
          begun = a;
          undone = elim (cases_lt (done_at H t) (length H)) [ inl d ↦ (let z = (done_order S H t l d).0 in omega arith) | inr d ↦ omega arith ];
          ungone = elim (cases_lt (gone_at H t) (length H)) [ inl d ↦ (let z = gone_order S H t l d in omega arith) | inr d ↦ omega arith ];
        })

-- while t is unfinished, its batch is open
pub open_while : (S : Setup) (H : List Event) (n t i : ℕ) → Lawful S H → on S H n t ≡ true → began_at H t < i → i ≤ length H → i ≤ done_at H t → i ≤ gone_at H t → i ≤ close S H n t
open_while S H n t i l o b h d g =
    let v = interval S H n t l (let z : began_at H t < length H = omega arith in z) o in
    elim (cases_lt (close S H n t) i) [
      | inl r ↦ absurd (idle_no S H n (side S H n t) (suc (close S H n t)) t l (let z : suc (close S H n t) ≤ length H = omega arith in z)
          (v.idle_after (let z : close S H n t < length H = omega arith in z))
          (record { on_node = o; on_side = refl; begun = (let z = v.closes in omega arith); undone = omega arith; ungone = omega arith }))
      | inr r ↦ r
    ]

-- two batches of one side are the same, or one is closed before the other starts
pub apart_or_same : (S : Setup) (H : List Event) (n t u : ℕ) → Lawful S H → began_at H t < length H → began_at H u < length H → on S H n t ≡ true → on S H n u ≡ true → side S H n t ≡ side S H n u →
    (start S H n t ≡ start S H n u) ⊎ ((close S H n t < start S H n u) ⊎ (close S H n u < start S H n t))
apart_or_same S H n t u l bt bu ot ou e =
    let v = interval S H n t l bt ot in
    let w = interval S H n u l bu ou in
    elim (cases_order (start S H n t) (start S H n u)) [
      | inl q ↦ inl q
      | inr o ↦ elim o [
        | inl r ↦ inr (inl (elim (cases_lt (close S H n t) (start S H n u)) [
          | inl c ↦ c
          | inr c ↦ absurd (both_ways _ (v.busy (start S H n u) r c) (subst (λ (z : ℕ). idle S (upto (start S H n u) H) n z ≡ true) (sym e) w.idle_before))
        ]))
        | inr r ↦ inr (inr (elim (cases_lt (close S H n u) (start S H n t)) [
          | inl c ↦ c
          | inr c ↦ absurd (both_ways _ (w.busy (start S H n t) r c) (subst (λ (z : ℕ). idle S (upto (start S H n t) H) n z ≡ true) e v.idle_before))
        ]))
      ]
    ]

-- the batch at a lower node m lies within the batch at n, if each transaction of t's side at m is of t's side at n
pub nested : (S : Setup) (H : List Event) (n m t : ℕ) → Lawful S H → began_at H t < length H → on S H n t ≡ true → on S H m t ≡ true →
    ((u : ℕ) → began_at H u < length H → on S H m u ≡ true → side S H m u ≡ side S H m t → (on S H n u ≡ true) × (side S H n u ≡ side S H n t)) →
    (start S H n t ≤ start S H m t) × (close S H m t ≤ close S H n t)
nested S H n m t l b on_n on_m below =
    let v = interval S H n t l b on_n in
    let w = interval S H m t l b on_m in (
      elim (cases_lt (start S H m t) (start S H n t)) [
        | inl r ↦ absurd (both_ways _ (w.busy (start S H n t) r (let z = v.by_began in let y = w.closes in omega arith)) (down (start S H n t) (let z = v.by_began in omega arith) v.idle_before))
        | inr r ↦ r
      ],
      elim (cases_lt (close S H n t) (close S H m t)) [
        | inl r ↦ absurd (both_ways _ (w.busy (suc (close S H n t)) (let z = w.by_began in let y = v.closes in omega arith) r)
            (down (suc (close S H n t)) (let z = w.within in omega arith) (v.idle_after (let z = w.within in omega arith))))
        | inr r ↦ r
      ],
    )
  where
    down : (j : ℕ) → j ≤ length H → idle S (upto j H) n (side S H n t) ≡ true → idle S (upto j H) m (side S H m t) ≡ true
    down j h i = idle_from S H m (side S H m t) j l h (λ u w. let r = below u (let z = w.begun in omega arith) w.on_node w.on_side in
        idle_no S H n (side S H n t) j u l h i (record { on_node = r.0; on_side = r.1; begun = w.begun; undone = w.undone; ungone = w.ungone }))

opens_is_began : (S : Setup) (n s t : ℕ) (Q : List Event) → opens S n s Q ≡ true → (newest (is_done t) Q ≡ false) × (newest (is_gone t) Q ≡ false)
unfolding opens
opens_is_began S n s t [] h = (refl, refl)
opens_is_began S n s t (Began u a k inst ∷ P) h = (refl, refl)
opens_is_began S n s t (Got u x w v ∷ P) h = (refl, refl)
opens_is_began S n s t (Put u x v ∷ P) h = (refl, refl)
opens_is_began S n s t (Ready u ∷ P) h = (refl, refl)
opens_is_began S n s t (Done u ∷ P) h = absurd (cc)
opens_is_began S n s t (Gone u c ∷ P) h = absurd (cc)
opens_is_began S n s t (Told u ∷ P) h = (refl, refl)

finish_event : (q : Event → Bool) (H : List Event) → first_event q H < length H → newest q (upto (suc (first_event q H)) H) ≡ true
finish_event q H h = let f = event_first q H h in ap (newest q) f.is ∙ f.passes

-- no batch of a node starts where one closes
pub start_not_close : (S : Setup) (H : List Event) (n t d : ℕ) → Lawful S H → on S H n t ≡ true → on S H n d ≡ true → began_at H t < length H → began_at H d < length H → start S H n t ≢ close S H n d
unfolding done_at gone_at
start_not_close S H n t d l ot od bt bd e =
    let v = starts_at S H n t l bt ot in
    let w = interval S H n d l bd od in
    let j : close S H n d < length H = (let z = v.by_began in omega arith) in
    let r = idle_someone S H n (side S H n d) (close S H n d) l w.within (w.busy (close S H n d) (let z = w.by_began in let y = w.closes in omega arith) (le_refl _)) in
    let x = r.works in
    let o = opens_is_began S n (side S H n t) r.who (upto (suc (start S H n t)) H) v.opens_there in
    let nd : close S H n d ≢ first_event (is_done r.who) H =
    (λ q. both_ways _ o.0 (subst (λ (z : ℕ). newest (is_done r.who) (upto (suc z) H) ≡ true) (sym q ∙ sym e) (finish_event (is_done r.who) H (subst (λ (z : ℕ). z < length H) q j)))) in
    let ng : close S H n d ≢ first_event (is_gone r.who) H =
    (λ q. both_ways _ o.1 (subst (λ (z : ℕ). newest (is_gone r.who) (upto (suc z) H) ≡ true) (sym q ∙ sym e) (finish_event (is_gone r.who) H (subst (λ (z : ℕ). z < length H) q j)))) in
    let x1 = x.begun in let x2 = x.undone in let x3 = x.ungone in
    idle_no S H n (side S H n d) (suc (close S H n d)) r.who l j (w.idle_after j) (record { on_node = x.on_node; on_side = x.on_side; begun = omega arith; undone = omega arith; ungone = omega arith })
