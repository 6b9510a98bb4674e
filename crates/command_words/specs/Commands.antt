-- The commands, by the words of the command line.
use Rattle.std.specs.Prelude.{ℕ, Bool, true, false, ◌-◌, ◌^◌, ◌<◌, ◌≤◌, if◌then◌else◌, nat_le, List, [], ◌∷◌, length, map, codes, String, string_bytes, Option, Some, None, option_map, option_and_then}
use Rattle.std.specs.declared.alloc.Global.{Global}
use Rattle.std.specs.Str.{bytes_eq}
use Rattle.script_text.specs.Numbers.{number_upto}
use Rattle.command_words.specs.declared.command.Command.{Command}
use Rattle.command_words.specs.declared.command.Command.TheVariants as command

-- one to ten digits with a value from low to high
unfoldable pub number_within : ℕ → ℕ → List ℕ → Option ℕ
number_within low high w =
    if nat_le (length w) 10 then option_and_then (λ n. if nat_le low n then Some n else None) (number_upto high w) else None

unfoldable pub lone_command : List ℕ → Option Command
lone_command w =
    if bytes_eq w (codes "replay") then Some command.Replay
    else if bytes_eq w (codes "turns") then Some command.Turns
    else if bytes_eq w (codes "audit") then Some command.Audit
    else if bytes_eq w (codes "phases") then Some command.Phases
    else None

unfoldable pub counted_command : List ℕ → List ℕ → Option Command
counted_command w n =
    if bytes_eq w (codes "threads") then option_map command.Threads (number_within 1 16 n)
    else if bytes_eq w (codes "pool") then option_map command.Pool (number_within 1 16 n)
    else if bytes_eq w (codes "crash") then option_map command.Crash (number_within 0 (2 ^ 31 - 1) n)
    else None

unfoldable pub load_command : List ℕ → List ℕ → List ℕ → Option Command
load_command w n s =
    if bytes_eq w (codes "load")
    then option_and_then (λ number. option_map (command.Load number) (number_within 1 2000 s)) (number_within 0 (2 ^ 31 - 1) n)
    else None

abbrev pub command_of : List (List ℕ) → Option Command
command_of (w ∷ []) = lone_command w
command_of (w ∷ n ∷ []) = counted_command w n
command_of (w ∷ n ∷ s ∷ []) = load_command w n s
command_of _ = None

-- the numbers are within their limits
abbrev pub IsWithin : Command → Type 0
IsWithin (command.Threads workers) = 1 ≤ workers
IsWithin (command.Pool workers) = 1 ≤ workers
IsWithin (command.Load number size) = (number < 2 ^ 31) × (size ≤ 2000)
IsWithin _ = Unit {0}

-- whether the command reads the input
abbrev pub reads : Option Command → Bool
reads (Some command.Replay) = true
reads (Some command.Turns) = true
reads (Some command.Audit) = true
reads (Some command.Phases) = true
reads (Some (command.Threads workers)) = true
reads (Some (command.Crash stop)) = true
reads (Some (command.Pool workers)) = true
reads _ = false

abbrev pub texts : List (String Global) → List (List ℕ)
texts words = map (λ w. string_bytes w) words
