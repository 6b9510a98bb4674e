-- The lines of a load are of sessions 1 to 8.
use Rattle.std.proofs.Common.{ℕ, zero, suc, ◌+◌, ◌*◌, ◌<◌, ◌≤◌, List, [], ◌∷◌, ◌++◌, arith}
use Rattle.std.specs.List.{flat_map, range_with_len}
use Rattle.teb_rules.specs.declared.names.TheConstants.{SESSIONS}
use Rattle.teb_rules.specs.declared.names.Session.{Session}
use Rattle.teb_rules.specs.declared.names.Request.{Request}
use Rattle.script_text.specs.Sessions.{AreOfSessions}
use Rattle.shop_load.specs.Loads.{Asking, askings_at, asked_by, numbered, loaded_lines, requests_from, session_of, state}

asked_sessions : (n : ℕ) (s : Session) (rs : List Request) (more : List Asking) → 0 < s.0 → s.0 ≤ SESSIONS → ((m : ℕ) → AreOfSessions (numbered m more))
    → AreOfSessions (numbered n (asked_by s rs ++ more))
asked_sessions n s [] more a b h = h n
asked_sessions n s (r ∷ rs) more a b h = (a, b, asked_sessions (n + 1) s rs more a b h)

loaded_from : (number a n m : ℕ) → AreOfSessions (numbered m (flat_map (askings_at number) (range_with_len a n)))
loaded_from number a zero m = tt
loaded_from number a (suc n) m = asked_sessions m (session_of a) (requests_from (state number (3 * a)) a) (flat_map (askings_at number) (range_with_len (a + 1) n)) (omega arith)
    (omega arith) (λ k. loaded_from number (a + 1) n k)

pub loaded_sessions : (number size : ℕ) → AreOfSessions (loaded_lines number size)
unfolding loaded_lines
loaded_sessions number size = loaded_from number 0 size 1
