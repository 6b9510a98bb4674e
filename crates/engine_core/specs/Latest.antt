-- Which transaction each session began last.
use Rattle.std.specs.Prelude.{◌≡◌, ℕ, cond, eqb, List, [], ◌∷◌, get_or}
use Rattle.teb_rules.specs.declared.names.Txn.{Txn}
use Rattle.teb_rules.specs.declared.history.Event.{Event}
use Rattle.teb_rules.specs.declared.history.Event.TheVariants.{Began}

-- the transaction that session s began last, or 0 if it began none
unfoldable pub latest_txn : List Event → ℕ → Txn
latest_txn [] s = record { 0 = 0 }
latest_txn (Began t a k i ∷ P) s = let r = latest_txn P s in cond (eqb a.0 s) t r
latest_txn (_ ∷ P) s = latest_txn P s

-- what is listed for session s
abbrev pub listed : List Txn → ℕ → Txn
listed ts s = get_or ts s (record { 0 = 0 })

-- the list has for each session the transaction that it began last
abbrev pub AreLatest : List Txn → List Event → Type 0
AreLatest ts H = (s : ℕ) → listed ts s ≡ latest_txn H s
