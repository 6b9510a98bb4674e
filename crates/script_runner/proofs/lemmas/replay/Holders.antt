-- The sessions that hold a transaction, starting from a given session.
use Rattle.std.proofs.Common.{ℕ, zero, suc, ◌≡◌, ◌+◌, ◌-◌, ◌<◌, ◌≤◌, Bool, true, false, cond, is_some, Option, Some, None, List, [], ◌∷◌, ◌++◌, map, filter, refl, ap, arith}
use Rattle.std.specs.List.{range_with_len}
use Rattle.teb_rules.specs.declared.names.TheConstants.{SESSIONS}
use Rattle.teb_rules.specs.declared.names.Session.{Session}
use Rattle.teb_rules.specs.declared.names.Request.TheVariants.{End}
use Rattle.teb_rules.specs.declared.history.Event.{Event}
use Rattle.teb_rules.specs.history.Phases.{held, numbers}
use Rattle.teb_rules.specs.history.Written.{txn_of}
use Rattle.teb_rules.specs.Run.{ends_of}
use Rattle.script_runner.specs.replay.Logs.{Requests}
use Rattle.script_runner.specs.replay.Holders.{holder_at, holders_from, end_of}

pub holders_at : (n s : ℕ) (H : List Event) → s < n → holders_from (n - s) s H ≡ holder_at H s ++ holders_from (n - (s + 1)) (s + 1) H
holders_at n s H lt = let e : n - s ≡ suc (n - (s + 1)) = omega arith in rw e refl

pub holders_done : (n s : ℕ) (H : List Event) → n ≤ s → holders_from (n - s) s H ≡ []
holders_done n s H le = let e : n - s ≡ 0 = omega arith in rw e refl

pub held_or_not : (o : Option ℕ) → is_some (txn_of o) ≡ is_some o
held_or_not None = refl
held_or_not (Some t) = refl

abbrev holds : List Event → ℕ → Bool
holds H s = is_some (held H s)

abbrev ends_among : List ℕ → Requests
ends_among ss = map (λ (s : ℕ). end_of (record { 0 = s })) ss

one_end : (b : Bool) (s : ℕ) (more : List Session) (rest : List ℕ) → map end_of more ≡ ends_among rest
    → map end_of (cond b (record { 0 = s } ∷ []) [] ++ more) ≡ ends_among (cond b (s ∷ rest) rest)
one_end true s more rest e = ap (λ (w : Requests). (record { 0 = s }, End) ∷ w) e
one_end false s more rest e = e

ends_in_range : (n s : ℕ) (H : List Event) → map end_of (holders_from n s H) ≡ ends_among (filter (holds H) (range_with_len s n))
ends_in_range zero s H = refl
ends_in_range (suc n) s H = one_end (holds H s) s (holders_from n (s + 1) H) (filter (holds H) (range_with_len (s + 1) n)) (ends_in_range n (s + 1) H)

pub ends_of_holders : (H : List Event) → map end_of (holders_from SESSIONS 1 H) ≡ ends_of H
unfolding ends_of numbers
ends_of_holders H = ends_in_range SESSIONS 1 H
