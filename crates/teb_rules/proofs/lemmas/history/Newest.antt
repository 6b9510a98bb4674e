-- How the newest event changes each transaction's standing, and what it has read and put.
use Rattle.std.proofs.Common.{◌≡◌, ℕ, Bool, not, ◌&&◌, ◌||◌, List, ◌∷◌, sym, ◌∙◌, ap}
use Rattle.teb_rules.specs.declared.names.Cell.{Cell}
use Rattle.teb_rules.specs.declared.history.Event.{Event}
use Rattle.teb_rules.specs.history.Positions.{first_event, came}
use Rattle.teb_rules.specs.history.Phases.{is_began, is_ready, is_done, is_gone, is_told, began_at, ready_at, done_at, gone_at, told_at, begun, committed, aborted, unfinished}
use Rattle.teb_rules.specs.history.Accesses.{is_put, is_got, put_at, got_at, wrote, got}
use Rattle.teb_rules.proofs.lemmas.history.Any.{came_any}

pub came-cons : (q : Event → Bool) (e : Event) (P : List Event) → came (e ∷ P) (first_event q (e ∷ P)) ≡ (q e || came P (first_event q P))
came-cons q e P = came_any q (e ∷ P) ∙ ap (λ b. q e || b) (sym (came_any q P))

pub begun-cons : (e : Event) (P : List Event) (t : ℕ) → begun (e ∷ P) t ≡ (is_began t e || begun P t)
unfolding begun began_at
begun-cons e P t = came-cons (is_began t) e P

pub committed-cons : (e : Event) (P : List Event) (t : ℕ) → committed (e ∷ P) t ≡ (is_done t e || committed P t)
unfolding committed done_at
committed-cons e P t = came-cons (is_done t) e P

pub aborted-cons : (e : Event) (P : List Event) (t : ℕ) → aborted (e ∷ P) t ≡ (is_gone t e || aborted P t)
unfolding aborted gone_at
aborted-cons e P t = came-cons (is_gone t) e P

pub ready-cons : (e : Event) (P : List Event) (t : ℕ) → came (e ∷ P) (ready_at (e ∷ P) t) ≡ (is_ready t e || came P (ready_at P t))
unfolding ready_at
ready-cons e P t = came-cons (is_ready t) e P

pub told-cons : (e : Event) (P : List Event) (t : ℕ) → came (e ∷ P) (told_at (e ∷ P) t) ≡ (is_told t e || came P (told_at P t))
unfolding told_at
told-cons e P t = came-cons (is_told t) e P

pub wrote-cons : (e : Event) (P : List Event) (t : ℕ) (x : Cell) → wrote (e ∷ P) t x ≡ (is_put t x e || wrote P t x)
unfolding wrote put_at
wrote-cons e P t x = came-cons (is_put t x) e P

pub got-cons : (e : Event) (P : List Event) (t : ℕ) (x : Cell) → got (e ∷ P) t x ≡ (is_got t x e || got P t x)
unfolding got got_at
got-cons e P t x = came-cons (is_got t x) e P

pub unfinished-cons : (e : Event) (P : List Event) (t : ℕ) → unfinished (e ∷ P) t ≡ ((is_began t e || begun P t) && not (is_done t e || committed P t) && not (is_gone t e || aborted P t))
unfolding unfinished
unfinished-cons e P t = λ j. begun-cons e P t j && not (committed-cons e P t j) && not (aborted-cons e P t j)
