-- The generated load: transactions of the shop, drawn from a number.
use Rattle.std.specs.Prelude.{ℕ, zero, suc, ◌==◌, if◌then◌else◌, ◌+◌, ◌*◌, ◌/◌, ◌%◌, ◌^◌, List, [], ◌∷◌, map, pos, negsuc}
use Rattle.std.specs.List.{flat_map, range_with_len}
use Rattle.teb_rules.specs.declared.names.Session.{Session}
use Rattle.teb_rules.specs.declared.names.Cell.{Cell}
use Rattle.teb_rules.specs.declared.names.Request.{Request}
use Rattle.teb_rules.specs.declared.names.Request.TheVariants.{Begin, Read, Write, Add, Commit}
use Rattle.script_text.specs.declared.Line.{Line}

-- a draw moves the state on, and answers its upper bits
abbrev pub next_state : ℕ → ℕ
next_state x = (1103515245 * x + 12345) % 2 ^ 31

abbrev pub drawn_from : ℕ → ℕ
drawn_from x = next_state x / 65536

-- the state after so many draws; it starts as the number
unfoldable pub state : ℕ → ℕ → ℕ
state number zero = number
state number (suc draws) = next_state (state number draws)

-- the types and the tables of the shop
abbrev pub begin : ℕ → Request
begin kind = Begin (record { kind = record { 0 = kind }; instance = 0 })

abbrev pub stock : ℕ → Cell
stock key = record { table = record { 0 = 0 }; key = key }

abbrev pub orders : ℕ → Cell
orders key = record { table = record { 0 = 1 }; key = key }

abbrev pub account : ℕ → Cell
account key = record { table = record { 0 = 2 }; key = key }

-- a report, the i-th new order, a payment and a delivery
abbrev pub report : ℕ → ℕ → List Request
report a b = begin 0 ∷ Read (stock a) ∷ Read (orders b) ∷ Commit ∷ []

abbrev pub new_order : ℕ → ℕ → ℕ → List Request
new_order i a b = begin 1 ∷ Read (stock a) ∷ Add (stock a) (negsuc 0) ∷ Write (orders b) (pos (i + 1)) ∷ Commit ∷ []

abbrev pub payment : ℕ → ℕ → List Request
payment a b = begin 2 ∷ Read (account a) ∷ Add (account a) (negsuc 4) ∷ Read (orders b) ∷ Commit ∷ []

abbrev pub delivery : ℕ → ℕ → List Request
delivery a b = begin 3 ∷ Read (orders a) ∷ Read (account b) ∷ Add (account b) (pos 5) ∷ Commit ∷ []

-- the requests of transaction i, by a number below 4
abbrev pub requests_by : ℕ → ℕ → ℕ → ℕ → List Request
requests_by k i a b = if k == 0 then report a b else (if k == 1 then new_order i a b else (if k == 2 then payment a b else delivery a b))

-- a key that is drawn, 1 to 16
abbrev pub key_from : ℕ → ℕ
key_from x = 1 + drawn_from x % 16

-- three draws from the state x say which it is, and its keys
abbrev pub requests_from : ℕ → ℕ → List Request
requests_from x i = let y = next_state x in requests_by (drawn_from x % 4) i (key_from y) (key_from (next_state y))

-- a line without its number
abbrev pub Asking : Type 0
Asking = Session × Request

abbrev pub asked_by : Session → List Request → List Asking
asked_by s rs = map (λ r. (s, r)) rs

-- the session of transaction i, 1 to 8
abbrev pub session_of : ℕ → Session
session_of i = record { 0 = 1 + i % 8 }

abbrev pub askings_at : ℕ → ℕ → List Asking
askings_at number i = asked_by (session_of i) (requests_from (state number (3 * i)) i)

-- the lines of all sessions, numbered from n on
abbrev pub numbered : ℕ → List Asking → List Line
numbered n [] = []
numbered n (a ∷ rest) = record { number = n; session = a.0; request = a.1 } ∷ numbered (n + 1) rest

-- the first so many transactions
unfoldable pub loaded_lines : ℕ → ℕ → List Line
loaded_lines number size = numbered 1 (flat_map (askings_at number) (range_with_len 0 size))
