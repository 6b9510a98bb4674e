-- Which sessions the workers of a pool have taken.
use Rattle.std.specs.Prelude.{◌≡◌, ℕ, ◌≤◌, List, Some, All, length, map, slice_get, Vec}
use Rattle.std.specs.List.Sorted.{IsStrictlyIncreasing}
use Rattle.std.specs.declared.alloc.Global.{Global}
use Rattle.teb_rules.specs.declared.names.TheConstants.{SESSIONS}
use Rattle.teb_rules.specs.declared.names.Session.{Session}
use Rattle.script_text.specs.declared.Line.{Line}
use Rattle.turn_lock.specs.Counts.{total, times}
use Rattle.session_tasks.specs.Scripted.{Scripted}

-- s is one of the sessions 1 to SESSIONS, and has a script
pub record HasScript (scripts : Scripted) (s : ℕ) : Type 0 where
  pub low : 1 ≤ s
  pub high : s ≤ SESSIONS
  pub place : ℕ
  pub lines : List Line
  pub script : slice_get scripts place ≡ Some (record { 0 = s }, lines)

-- how often s stands in the lists
abbrev pub stands : ℕ → List (List ℕ) → ℕ
stands s lists = total (times s) lists

-- One list a worker, each strictly ascending. Each session with a script stands in just one of them, and there once; no other stands in any
pub record AreTaken (scripts : Scripted) (workers : ℕ) (taken : List (List ℕ)) : Type 0 where
  pub lists : length taken ≡ workers
  pub ascending : All IsStrictlyIncreasing taken
  pub once : (s : ℕ) → HasScript scripts s → stands s taken ≡ 1
  pub others : (s : ℕ) → (HasScript scripts s → ⊥) → stands s taken ≡ 0

abbrev pub numbers_in : List (Vec Session Global) → List (List ℕ)
numbers_in lists = map (λ v. map (λ s. s.0) v.items) lists
