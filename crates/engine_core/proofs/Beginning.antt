-- A Begin is never told to break.
use Rattle.std.proofs.Common.{◌≡◌, ℕ, Bool, true, false, cond, List, [], ◌∷◌, Option, Some, None, refl}
use Rattle.teb_rules.specs.declared.names.Node.{Node}
use Rattle.teb_rules.specs.declared.names.Spot.{Spot}
use Rattle.teb_rules.specs.declared.names.Txn.{Txn}
use Rattle.teb_rules.specs.declared.history.Event.{Event}
use Rattle.teb_rules.specs.Setup.{Setup}
use Rattle.teb_rules.specs.Tree.{path}
use Rattle.teb_rules.specs.declared.Stop.TheVariants as stop
use Rattle.teb_rules.specs.declared.Verdict.{Verdict}
use Rattle.teb_rules.specs.declared.Verdict.TheVariants.{Go, Wait, Break}
use Rattle.teb_rules.specs.Verdicts.{wait_for}
use Rattle.teb_rules.specs.Stops.{on_begin, stop_of, stop_with, begin_stop}

-- the verdict is Wait or Go
abbrev pub Passes : Verdict → Type 0
Passes Go = Unit {0}
Passes (Wait u) = Unit {0}
Passes (Break b) = ⊥

waits : (b : Bool) (o : Option ℕ) → Passes (cond b (wait_for o) Go)
waits true None = tt
waits true (Some u) = tt
waits false o = tt

on_begin_passes : (S : Setup) (H : List Event) (s : Spot) (n : ℕ) → Passes (on_begin S H s n)
unfolding on_begin
on_begin_passes S H s n = waits _ _

goes : (f : ℕ → Verdict) (ns : List ℕ) → ((n : ℕ) → Passes (f n)) → ((u : Txn) (n : Node) → stop_of f ns ≡ stop.Wait u n → ⊥) → stop_of f ns ≡ stop.Go
unfolding stop_of
goes f [] p w = refl
goes f (n ∷ ns) p w = step (f n) (p n) (goes f ns p) w
  where
    step : (v : Verdict) → Passes v → (((u : Txn) (m : Node) → stop_of f ns ≡ stop.Wait u m → ⊥) → stop_of f ns ≡ stop.Go) → ((u : Txn) (m : Node) → stop_with n v (stop_of f ns) ≡ stop.Wait u m → ⊥)
        → stop_with n v (stop_of f ns) ≡ stop.Go
    step Go q ih w = ih w
    step (Wait u) q ih w = absurd (w u (record { 0 = n }) refl)
    step (Break b) q ih w = absurd q

-- a Begin whose stop is never a Wait may go
pub begin_goes : (S : Setup) (H : List Event) (s : Spot) → ((u : Txn) (n : Node) → begin_stop S H s ≡ stop.Wait u n → ⊥) → begin_stop S H s ≡ stop.Go
unfolding begin_stop
begin_goes S H s w = goes (on_begin S H s) (path S.tree s) (on_begin_passes S H s) w
