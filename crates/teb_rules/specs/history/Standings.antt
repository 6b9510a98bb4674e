-- What is kept of each transaction that has an event.
use Rattle.std.specs.Prelude.{◌≡◌, ℕ, Bool, true, false, cond, not, ◌&&◌, ◌||◌, List, map, reverse, is_some, Option, Some, None, Result, Ok, Err, get_or}
use Rattle.std.specs.Option.{option_map_or}
use Rattle.teb_rules.specs.declared.names.Txn.{Txn}
use Rattle.teb_rules.specs.declared.history.Event.{Event}
use Rattle.teb_rules.specs.declared.history.Event.TheVariants as event
use Rattle.teb_rules.specs.declared.history.Phase.{Phase}
use Rattle.teb_rules.specs.declared.history.Phase.TheVariants as phase
use Rattle.teb_rules.specs.declared.history.standing.Start.{Start}
use Rattle.teb_rules.specs.declared.history.standing.Standing.{Standing}
use Rattle.teb_rules.specs.history.Positions.{came}
use Rattle.teb_rules.specs.history.Phases.{begun, committed, ready_at, told_at, spot_of, session_of, cause_of, is_after, begun_count}
use Rattle.teb_rules.specs.history.Ascending.{place_of}
use Rattle.teb_rules.specs.history.OwnEvents.{own_end, links}
use Rattle.teb_rules.specs.history.Live.{mentioned, live_txns}

-- the number of a standing's transaction
abbrev pub standing_number : Standing → ℕ
standing_number r = r.txn.0

-- with what t began, if it has
abbrev pub start_of : List Event → ℕ → Option Start
start_of H t = cond (begun H t) (Some (record { session = record { 0 = session_of H t }; spot = spot_of H t })) None

-- the standing of t: what its events say of it
abbrev pub standing_of : List Event → ℕ → Standing
standing_of H t = record { txn = record { 0 = t }; start = start_of H t; ready = came H (ready_at H t); done = committed H t; gone = cause_of H t; told = came H (told_at H t); end = own_end H t }

-- the standing of t before its first event
abbrev pub blank : Txn → Standing
blank t = record { txn = t; start = None; ready = false; done = false; gone = None; told = false; end = 0 }

-- the standing at a place; a blank one if there is no place
abbrev pub standing_at : List Standing → Txn → Result ℕ ℕ → Standing
standing_at kept t (Ok i) = get_or kept i (blank t)
standing_at kept t (Err i) = blank t

-- the standing of t, among those of the transactions that have an event
abbrev pub standing_in : List Standing → Txn → Standing
standing_in kept t = standing_at kept t (place_of standing_number kept t.0)

-- a standing after one more event of its transaction, with n events in the history
abbrev pub standing_after : Event → ℕ → Standing → Standing
standing_after (event.Began t s k i) n r = record r { start = Some (record { session = s; spot = record { kind = k; instance = i } }); end = n }
standing_after (event.Got t x w v) n r = record r { end = n }
standing_after (event.Put t x v) n r = record r { end = n }
standing_after (event.Ready t) n r = record r { ready = true; end = n }
standing_after (event.Done t) n r = record r { done = true; end = n }
standing_after (event.Gone t c) n r = record r { gone = Some c; end = n }
standing_after (event.Told t) n r = record r { told = true; end = n }

-- what a standing tells
abbrev pub stands_unfinished : Standing → Bool
stands_unfinished r = is_some r.start && not r.done && not (is_some r.gone)

abbrev pub stands_prepared : Standing → Bool
stands_prepared r = stands_unfinished r && r.ready

abbrev pub stands_live : Standing → Bool
stands_live r = stands_unfinished r || (is_after r.gone && not r.told)

-- whether a transaction is live after one more of its events, if such an event may change that
abbrev pub turned : Event → ℕ → Standing → Option Bool
turned (event.Began t s k i) n r = Some (stands_live (standing_after (event.Began t s k i) n r))
turned (event.Got t x w v) n r = None
turned (event.Put t x v) n r = None
turned (event.Ready t) n r = None
turned (event.Done t) n r = Some (stands_live (standing_after (event.Done t) n r))
turned (event.Gone t c) n r = Some (stands_live (standing_after (event.Gone t c) n r))
turned (event.Told t) n r = Some (stands_live (standing_after (event.Told t) n r))

-- the number of the session that began it; 0 if none has
abbrev pub stands_session : Standing → ℕ
stands_session r = option_map_or (λ s. s.session.0) r.start 0

abbrev pub standing_phase : Standing → Phase
standing_phase r =
    cond r.done phase.Committed
    (cond (is_some r.gone) phase.Aborted
    (cond (not (is_some r.start)) phase.NotBegun
    (cond r.ready phase.Ready phase.Running)))

-- the standings of those that have an event, by ascending number
abbrev pub standings : List Event → List Standing
standings H = map (λ t. standing_of H t.0) (mentioned H)

-- what is kept beside the events, which have the oldest first
pub record IsKept (events : List Event) (positions : List ℕ) (kept : List Standing) (txns : List Txn) (count : ℕ) : Type 0 where
  pub links : positions ≡ reverse (links (reverse events))
  pub standings : kept ≡ standings (reverse events)
  pub live : txns ≡ live_txns (reverse events)
  pub begun : count ≡ begun_count (reverse events)
