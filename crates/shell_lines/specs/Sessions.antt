-- The sessions that hold a transaction.
use Rattle.std.specs.Prelude.{ℕ, Bool, ◌+◌, ◌-◌, if◌then◌else◌, ◌&&◌, nat_le, List, [], ◌∷◌, ◌++◌, reverse, codes, decimal, get_or, replicate, set, Option, Some, None}
use Rattle.std.specs.List.{flat_map}
use Rattle.teb_rules.specs.declared.names.TheConstants.{SESSIONS}
use Rattle.teb_rules.specs.declared.names.Session.{Session}
use Rattle.teb_rules.specs.declared.names.Txn.{Txn}
use Rattle.teb_rules.specs.declared.names.Reply.TheVariants.{Again}
use Rattle.teb_rules.specs.declared.names.naming.NameBook.{NameBook}
use Rattle.teb_rules.specs.declared.history.Event.{Event}
use Rattle.teb_rules.specs.history.OwnEvents.{own_events}
use Rattle.teb_rules.specs.history.Phases.{aborted, prepared, unfinished}
use Rattle.teb_rules.specs.history.Written.{held_txn}
use Rattle.teb_rules.specs.Tree.{below}
use Rattle.script_text.specs.Texts.{event_text, line_text, name_of, txn_text}
use Rattle.shell_lines.specs.Answers.{end_line}
use Rattle.shell_lines.specs.declared.waits.Wait.{Wait}
use Rattle.shell_lines.specs.declared.waits.Waits.{Waits}
use Rattle.shell_lines.specs.declared.reply.StoreReply.{StoreReply}
use Rattle.shell_lines.specs.declared.reply.StoreReply.TheVariants.{Reply}

-- for whom a reply tells a session to wait
abbrev pub wait_in : StoreReply → Option Wait
wait_in (Reply (Again u n)) = Some (record { who = u; node = n })
wait_in _ = None

-- nobody was told to wait
abbrev pub no_waits : Waits
no_waits = record { by_session = replicate SESSIONS None }

-- the wait that the last reply to session s told
abbrev pub wait_of : Waits → ℕ → Option Wait
wait_of ws s = get_or ws.by_session (s - 1) None

abbrev pub is_session : Session → Bool
is_session s = nat_le 1 s.0 && nat_le s.0 SESSIONS

-- one reply more
abbrev pub noted : Waits → Session → StoreReply → Waits
noted ws s r = if is_session s then record { by_session = set ws.by_session (s.0 - 1) (wait_in r) } else ws

abbrev pub wait_words : List (List ℕ) → Wait → List (List ℕ)
wait_words nodes w = codes "waits" ∷ txn_text w.who ∷ codes "at" ∷ name_of nodes w.node.0 ∷ []

module _ (H : List Event) where
  -- a session and the transaction that it holds, as the prompt has them
  abbrev pub prompt_word : ℕ → Option Txn → List ℕ
  prompt_word s None = []
  prompt_word s (Some t) = codes " " ++ decimal s ++ codes ":" ++ txn_text t

  abbrev pub held_word : ℕ → List ℕ
  held_word s = prompt_word s (held_txn H (record { 0 = s }))

  -- session 1 to 32
  abbrev pub held_text : List ℕ
  held_text = flat_map (λ i. held_word (i + 1)) (below SESSIONS)

  abbrev pub prompt_text : List ℕ
  prompt_text = codes "tebaldi" ++ held_text ++ codes "> "

  module _ (names : NameBook) where
    abbrev pub idle_words : Txn → List (List ℕ)
    idle_words t = if prepared H t.0 then codes "prepared" ∷ [] else codes "active" ∷ []

    -- a transaction waits until the other one has finished; then its session may ask again
    abbrev pub open_words : Txn → Option Wait → List (List ℕ)
    open_words t (Some w) = if unfinished H w.who.0 then wait_words names.nodes w else idle_words t
    open_words t None = idle_words t

    -- where an open transaction stands
    abbrev pub standing_words : Txn → Option Wait → List (List ℕ)
    standing_words t w = if aborted H t.0 then codes "aborted" ∷ [] else open_words t w

    -- what it has done, the oldest first
    abbrev pub done_text : Txn → List ℕ
    done_text t = flat_map (event_text names) (reverse (own_events H t.0))

    abbrev pub holder_line : ℕ → Option Wait → Txn → List ℕ
    holder_line s w t = line_text (codes "session" ∷ decimal s ∷ txn_text t ∷ standing_words t w)

    abbrev pub holder_text : ℕ → Option Wait → Option Txn → List ℕ
    holder_text s w None = []
    holder_text s w (Some t) = holder_line s w t ++ done_text t

    abbrev pub session_text : Waits → ℕ → List ℕ
    session_text ws s = holder_text s (wait_of ws s) (held_txn H (record { 0 = s }))

    abbrev pub holders_text : Waits → List ℕ
    holders_text ws = flat_map (λ i. session_text ws (i + 1)) (below SESSIONS)

    abbrev pub sessions_text : Waits → List ℕ
    sessions_text ws = holders_text ws ++ end_line
