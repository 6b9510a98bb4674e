-- The standing of a transaction after one more event.
use Rattle.std.proofs.Common.{◌≡◌, ℕ, suc, Bool, true, false, cond, not, ◌&&◌, ◌||◌, eqb, List, [], ◌∷◌, length, Some, None, is_some, refl, sym, ◌∙◌, ap}
use Rattle.std.specs.List.{list_any}
use Rattle.std.specs.Option.{option_map, option_map_or}
use Rattle.teb_rules.specs.declared.names.Txn.{Txn}
use Rattle.teb_rules.specs.declared.history.Event.{Event}
use Rattle.teb_rules.specs.declared.history.Event.TheVariants.{Began, Got, Put, Ready, Done, Gone, Told}
use Rattle.teb_rules.specs.declared.history.Phase.TheVariants as phase
use Rattle.teb_rules.specs.declared.history.standing.Start.{Start}
use Rattle.teb_rules.specs.history.Positions.{first, first_event, came}
use Rattle.teb_rules.specs.history.Phases.{is_began, is_ready, is_done, is_gone, is_told, began_at, ready_at, done_at, gone_at, told_at}
use Rattle.teb_rules.specs.history.Phases.{begun, committed, aborted, unfinished, untold, prepared, spot_of, session_of, cause_of}
use Rattle.teb_rules.specs.history.Written.{phase_of, begun_spot, begun_kind, begun_session}
use Rattle.teb_rules.specs.history.OwnEvents.{is_of, own_end}
use Rattle.teb_rules.specs.history.Live.{is_live}
use Rattle.teb_rules.specs.history.Standings.{start_of, standing_of, blank, standing_after, stands_unfinished, stands_live, stands_prepared, stands_session, standing_phase}
use Rattle.teb_rules.proofs.lemmas.history.Any.{came_any}
use Rattle.teb_rules.proofs.lemmas.history.Newest.{begun-cons, committed-cons, ready-cons, told-cons}

-- each part of the standing after the newest event
parts : (e : Event) (P : List Event) (t : ℕ) → standing_of (e ∷ P) t ≡ record {
  txn = record { 0 = t };
  start = cond (is_began t e || begun P t) (Some (record { session = record { 0 = session_of (e ∷ P) t }; spot = spot_of (e ∷ P) t })) None;
  ready = is_ready t e || came P (ready_at P t);
  done = is_done t e || committed P t;
  gone = cause_of (e ∷ P) t;
  told = is_told t e || came P (told_at P t);
  end = own_end (e ∷ P) t;
}
parts e P t = λ j. record {
  txn = record { 0 = t };
  start = cond (begun-cons e P t j) (Some (record { session = record { 0 = session_of (e ∷ P) t }; spot = spot_of (e ∷ P) t })) None;
  ready = ready-cons e P t j;
  done = committed-cons e P t j;
  gone = cause_of (e ∷ P) t;
  told = told-cons e P t j;
  end = own_end (e ∷ P) t;
}

-- one more event changes the standing of its own transaction
pub standing_of-own : (e : Event) (P : List Event) (t : ℕ) → is_of t e ≡ true → standing_of (e ∷ P) t ≡ standing_after e (suc (length P)) (standing_of P t)
unfolding session_of spot_of cause_of own_end
standing_of-own (Began u s k i) P t h = parts (Began u s k i) P t ∙ rw h refl
standing_of-own (Got u x w v) P t h = parts (Got u x w v) P t ∙ rw h refl
standing_of-own (Put u x v) P t h = parts (Put u x v) P t ∙ rw h refl
standing_of-own (Ready u) P t h = parts (Ready u) P t ∙ rw h refl
standing_of-own (Done u) P t h = parts (Done u) P t ∙ rw h refl
standing_of-own (Gone u c) P t h = parts (Gone u c) P t ∙ rw h refl
standing_of-own (Told u) P t h = parts (Told u) P t ∙ rw h refl

-- it changes no other transaction's standing
pub standing_of-other : (e : Event) (P : List Event) (t : ℕ) → is_of t e ≡ false → standing_of (e ∷ P) t ≡ standing_of P t
unfolding session_of spot_of cause_of own_end
standing_of-other (Began u s k i) P t h = parts (Began u s k i) P t ∙ rw h refl
standing_of-other (Got u x w v) P t h = parts (Got u x w v) P t ∙ rw h refl
standing_of-other (Put u x v) P t h = parts (Put u x v) P t ∙ rw h refl
standing_of-other (Ready u) P t h = parts (Ready u) P t ∙ rw h refl
standing_of-other (Done u) P t h = parts (Done u) P t ∙ rw h refl
standing_of-other (Gone u c) P t h = parts (Gone u c) P t ∙ rw h refl
standing_of-other (Told u) P t h = parts (Told u) P t ∙ rw h refl

pub standing_of-nothing : (t : Txn) → standing_of [] t.0 ≡ blank t
unfolding begun began_at committed done_at ready_at told_at cause_of own_end first_event first
standing_of-nothing t = refl

-- a transaction that has not begun has session 0
unbegun-session : (H : List Event) (t : ℕ) → begun H t ≡ false → session_of H t ≡ 0
unfolding session_of
unbegun-session [] t h = refl
unbegun-session (Began u s k i ∷ P) t h = go (eqb u.0 t) (sym (begun-cons (Began u s k i) P t) ∙ h) (unbegun-session P t)
  where
    go : (b : Bool) → (b || begun P t) ≡ false → (begun P t ≡ false → session_of P t ≡ 0) → cond b s.0 (session_of P t) ≡ 0
    go true h ih = absurd (cc)
    go false h ih = ih h
unbegun-session (Got u x w v ∷ P) t h = unbegun-session P t (sym (begun-cons (Got u x w v) P t) ∙ h)
unbegun-session (Put u x v ∷ P) t h = unbegun-session P t (sym (begun-cons (Put u x v) P t) ∙ h)
unbegun-session (Ready u ∷ P) t h = unbegun-session P t (sym (begun-cons (Ready u) P t) ∙ h)
unbegun-session (Done u ∷ P) t h = unbegun-session P t (sym (begun-cons (Done u) P t) ∙ h)
unbegun-session (Gone u c ∷ P) t h = unbegun-session P t (sym (begun-cons (Gone u c) P t) ∙ h)
unbegun-session (Told u ∷ P) t h = unbegun-session P t (sym (begun-cons (Told u) P t) ∙ h)

begun-start : (H : List Event) (t : ℕ) → begun H t ≡ is_some (start_of H t)
begun-start H t = go (begun H t) (record { session = record { 0 = session_of H t }; spot = spot_of H t })
  where
    go : (b : Bool) (s : Start) → b ≡ is_some (cond b (Some s) None)
    go true s = refl
    go false s = refl

any-gone : (H : List Event) (t : ℕ) → list_any (is_gone t) H ≡ is_some (cause_of H t)
unfolding cause_of
any-gone [] t = refl
any-gone (Gone u c ∷ P) t = go (eqb u.0 t) (any-gone P t)
  where
    go : (b : Bool) → list_any (is_gone t) P ≡ is_some (cause_of P t) → (b || list_any (is_gone t) P) ≡ is_some (cond b (Some c) (cause_of P t))
    go true h = refl
    go false h = h
any-gone (Began u s k i ∷ P) t = any-gone P t
any-gone (Got u x w v ∷ P) t = any-gone P t
any-gone (Put u x v ∷ P) t = any-gone P t
any-gone (Ready u ∷ P) t = any-gone P t
any-gone (Done u ∷ P) t = any-gone P t
any-gone (Told u ∷ P) t = any-gone P t

aborted-gone : (H : List Event) (t : ℕ) → aborted H t ≡ is_some (cause_of H t)
unfolding aborted gone_at
aborted-gone H t = came_any (is_gone t) H ∙ any-gone H t

pub has_begun_standing : (H : List Event) (t : ℕ) → is_some (standing_of H t).start ≡ begun H t
has_begun_standing H t = sym (begun-start H t)

pub is_aborted_standing : (H : List Event) (t : ℕ) → is_some (standing_of H t).gone ≡ aborted H t
is_aborted_standing H t = sym (aborted-gone H t)

pub unfinished_standing : (H : List Event) (t : ℕ) → stands_unfinished (standing_of H t) ≡ unfinished H t
unfolding unfinished
unfinished_standing H t = λ j. has_begun_standing H t j && not (committed H t) && not (is_aborted_standing H t j)

pub live_standing : (H : List Event) (t : ℕ) → stands_live (standing_of H t) ≡ is_live H t
unfolding untold
live_standing H t = ap (λ b. b || untold H t) (unfinished_standing H t)

pub prepared_standing : (H : List Event) (t : ℕ) → stands_prepared (standing_of H t) ≡ prepared H t
unfolding prepared
prepared_standing H t = ap (λ b. b && came H (ready_at H t)) (unfinished_standing H t)

pub phase_standing : (H : List Event) (t : ℕ) → standing_phase (standing_of H t) ≡ phase_of H t
phase_standing H t = λ j. cond (committed H t) phase.Committed
    (cond (is_aborted_standing H t j) phase.Aborted (cond (not (has_begun_standing H t j)) phase.NotBegun (cond (came H (ready_at H t)) phase.Ready phase.Running)))

-- the parts of the start
pub start_spot : (H : List Event) (t : ℕ) → option_map (λ s. s.spot) (standing_of H t).start ≡ begun_spot H t
start_spot H t = go (begun H t)
  where
    go : (b : Bool) → option_map (λ (s : Start). s.spot) (cond b (Some (record { session = record { 0 = session_of H t }; spot = spot_of H t })) None) ≡ cond b (Some (spot_of H t)) None
    go true = refl
    go false = refl

pub start_kind : (H : List Event) (t : ℕ) → option_map (λ s. s.spot.kind) (standing_of H t).start ≡ begun_kind H t
start_kind H t = go (begun H t)
  where
    go : (b : Bool) → option_map (λ (s : Start). s.spot.kind) (cond b (Some (record { session = record { 0 = session_of H t }; spot = spot_of H t })) None) ≡ cond b (Some (spot_of H t).kind) None
    go true = refl
    go false = refl

pub start_session : (H : List Event) (t : ℕ) → option_map (λ s. s.session) (standing_of H t).start ≡ begun_session H t
start_session H t = go (begun H t)
  where
    go : (b : Bool) → option_map (λ (s : Start). s.session) (cond b (Some (record { session = record { 0 = session_of H t }; spot = spot_of H t })) None) ≡ cond b
        (Some (record { 0 = session_of H t })) None
    go true = refl
    go false = refl

pub session_standing : (H : List Event) (t : ℕ) → stands_session (standing_of H t) ≡ session_of H t
session_standing H t = go (begun H t) (unbegun-session H t)
  where
    go : (b : Bool) → (b ≡ false → session_of H t ≡ 0) → option_map_or (λ (s : Start). s.session.0) (cond b (Some (record { session = record { 0 = session_of H t }; spot = spot_of H t })) None)
        0 ≡ session_of H t
    go true h = refl
    go false h = sym (h refl)
