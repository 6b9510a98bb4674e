-- The waits have no cycle, and the oldest unfinished transaction does not wait.
use Rattle.std.proofs.Common.{◌≡◌, ◌≢◌, ◌⊎◌, ℕ, zero, suc, ◌<◌, ◌≤◌, true, false, List, Some, inl, inr, arith, subst, sym}
use Rattle.std.proofs.lemmas.Bool.{both_ways, cases_Bool, cases_eq, cases_lt}
use Rattle.teb_rules.specs.declared.names.Node.{Node}
use Rattle.teb_rules.specs.declared.names.Txn.{Txn}
use Rattle.teb_rules.specs.declared.names.Session.{Session}
use Rattle.teb_rules.specs.declared.names.Request.{Request}
use Rattle.teb_rules.specs.declared.names.Reply.TheVariants.{Again}
use Rattle.teb_rules.specs.declared.history.Event.{Event}
use Rattle.teb_rules.specs.history.Phases.{held, unfinished}
use Rattle.teb_rules.specs.Setup.{Store}
use Rattle.teb_rules.specs.Answer.{answer}
use Rattle.teb_rules.proofs.lemmas.laws.Waits.{again_fair}
use Rattle.guarantees.specs.Waiting.{HasNoDeadlock, Leads, WaitsFor, further, step}

-- along a chain of waits, the transactions that the sessions hold get older
record IsOlderAt (H : List Event) (s z : ℕ) : Type 0 where
  who : ℕ
  holds : held H z ≡ Some who
  older : (t : ℕ) → held H s ≡ Some t → who < t

along : (X : Store) (H : List Event) (s z : ℕ) → Leads (WaitsFor X H) s z → IsOlderAt H s z
along X H s z (step a b w) = record { who = w.who.0; holds = w.holds; older = (again_fair X H (record { 0 = a }) w.request w.who w.node w.told).older }
along X H s z (further a y b w rest) =
    let r = along X H y b rest in
    record { who = r.who; holds = r.holds; older = λ t h. let a = (again_fair X H (record { 0 = a }) w.request w.who w.node w.told).older t h in let b = r.older w.who.0 w.holds in omega arith }

-- the lowest-numbered unfinished transaction
record Least (H : List Event) : Type 0 where
  who : ℕ
  running : unfinished H who ≡ true
  least : (v : ℕ) → unfinished H v ≡ true → who ≤ v

least_below : (H : List Event) (n : ℕ) → ((u : ℕ) → u < n → unfinished H u ≡ false) ⊎ Least H
least_below H zero = inl (λ u h. absurd (omega arith))
least_below H (suc n) = elim (least_below H n) [
  | inr l ↦ inr l
  | inl f ↦ elim (cases_Bool (unfinished H n)) [
    | inl t ↦ inr (record { who = n; running = t; least = λ v w. elim (cases_lt v n) [ inl k ↦ absurd (both_ways _ (f v k) w) | inr k ↦ k ] })
    | inr t ↦ inl (λ u h. elim (cases_eq u n) [ inl e ↦ subst (λ (z : ℕ). unfinished H z ≡ false) (sym e) t | inr ne ↦ f u (omega arith) ])
  ]
]

least_of : (H : List Event) (t : ℕ) → unfinished H t ≡ true → Least H
least_of H t h = elim (least_below H (suc t)) [ inl f ↦ absurd (both_ways _ (f t (omega arith)) h) | inr l ↦ l ]

oldest_goes : (X : Store) (H : List Event) (s : Session) (t : ℕ) (r : Request) (u : Txn) (n : Node) → held H s.0 ≡ Some t → ((v : ℕ) → unfinished H v ≡ true → t ≤ v) → (answer X H s r).0 ≢ Again u n
oldest_goes X H s t r u n h l e = let f = again_fair X H s r u n e in let a = f.older t h in let b = l u.0 f.running in absurd (omega arith)

pub no_deadlock : (X : Store) (H : List Event) → HasNoDeadlock X H
no_deadlock X H = record {
  no_cycle = λ s c. let r = along X H s s c in let a = r.older r.who r.holds in absurd (omega arith);
  oldest = λ s t r u n h l. oldest_goes X H s t r u n h l;
  somebody = λ t h. let l = least_of H t h in (l.who, l.running, λ s r u n k. oldest_goes X H s l.who r u n k l.least);
}
