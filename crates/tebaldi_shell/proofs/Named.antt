-- The nodes and tables in an engine's replies, events and final rows have names.
use Rattle.std.proofs.Common.{◌≡◌, ℕ, zero, suc, ◌<◌, arith, get_or, List, [], ◌∷◌, length, reverse, Some, sym, ap, ◌∙◌, subst, ℤ}
use Rattle.std.specs.Prelude.{All}
use Rattle.std.proofs.lemmas.List.{reverse-append}
use Rattle.std.proofs.lemmas.List.Elements.{All-append}
use Rattle.teb_rules.specs.declared.names.Cell.{Cell}
use Rattle.teb_rules.specs.declared.names.Node.{Node}
use Rattle.teb_rules.specs.declared.names.Cause.{Cause}
use Rattle.teb_rules.specs.declared.names.Cause.TheVariants as cause
use Rattle.teb_rules.specs.declared.names.Reply.{Reply}
use Rattle.teb_rules.specs.declared.names.Reply.TheVariants as reply
use Rattle.teb_rules.specs.declared.names.Request.{Request}
use Rattle.teb_rules.specs.declared.names.Session.{Session}
use Rattle.teb_rules.specs.declared.names.naming.NameBook.{NameBook}
use Rattle.teb_rules.specs.names.Rows.{row_of}
use Rattle.teb_rules.specs.declared.history.Event.{Event}
use Rattle.teb_rules.specs.declared.history.Event.TheVariants as event
use Rattle.teb_rules.specs.Setup.{Store}
use Rattle.teb_rules.specs.Answer.{answer}
use Rattle.teb_rules.specs.laws.Within.{AllWithin, CellWithin, CauseWithin, EventWithin, NodeWithin, ReplyWithin, StaysWithin}
use Rattle.teb_rules.proofs.lemmas.laws.Within.{stays_within}
use Rattle.store_setup.specs.declared.Setup.{Setup}
use Rattle.store_setup.specs.SetupView.{setup_view}
use Rattle.store_setup.specs.Sound.{IsWhole}
use Rattle.store_setup.specs.Stores.{store_of}
use Rattle.script_text.specs.Named.{CauseNamed, CellNamed, EventNamed, NodeNamed, ReplyNamed, RowsNamed}
use Rattle.engine_core.specs.EngineModel.{EngineModel, IsOfEngine}
use Rattle.teb_rules.specs.Epochs.{AreFinalRows}
use Rattle.serial_order.proofs.Within.{row_within, rows_within}

-- every node and every table has a name
module _ (X : Store) (names : NameBook) (nodes : length X.setup.tree ≡ length names.nodes) (tables : X.tables ≡ length names.tables) where
  node_named : (n : Node) → NodeWithin X n → NodeNamed names n
  node_named n h = subst (λ (k : ℕ). n.0 < k) nodes h

  cell_named : (x : Cell) → CellWithin X x → CellNamed names x
  cell_named x h = subst (λ (k : ℕ). x.table.0 < k) tables h

  cause_named : (c : Cause) → CauseWithin X c → CauseNamed names c
  cause_named (cause.Late n r x) h = (node_named n h.0, cell_named x h.1)
  cause_named (cause.First n w x) h = (node_named n h.0, cell_named x h.1)
  cause_named (cause.Pivot n a b c d) h = node_named n h
  cause_named (cause.Newer n u) h = node_named n h
  cause_named (cause.After u) h = h
  cause_named cause.Asked h = h
  cause_named cause.Ended h = h

  reply_named : (r : Reply) → ReplyWithin X r → ReplyNamed names r
  reply_named (reply.Begun t) h = h
  reply_named (reply.Value v) h = h
  reply_named (reply.Values vs) h = h
  reply_named reply.Done h = h
  reply_named reply.Prepared h = h
  reply_named reply.Committed h = h
  reply_named (reply.Again u n) h = node_named n h
  reply_named (reply.Aborted c) h = cause_named c h
  reply_named (reply.Refused w) h = h

within : (e : EngineModel) → IsOfEngine e → StaysWithin e.store e.events
within e of = subst (StaysWithin e.store) (sym of.reached.1) (stays_within e.store of.sound of.reached.0)

-- the nodes and tables of a reply have names
pub answer_named : (e : EngineModel) (session : Session) (request : Request) (r : Reply) → IsOfEngine e → length e.store.setup.tree ≡ length e.names.nodes → e.store.tables ≡ length e.names.tables
    → r ≡ (answer e.store e.events session request).0 → ReplyNamed e.names r
answer_named e session request r of nodes tables is = reply_named e.store e.names nodes tables r (subst (ReplyWithin e.store) (sym is) ((within e of).replies session request))

-- there are as many tables as table names
pub same_tables : (e : EngineModel) (s : Setup) → store_of s ≡ e.store → s.names ≡ e.names → e.store.tables ≡ length e.names.tables
same_tables e s store names = sym (ap (λ (X : Store). X.tables) store) ∙ ap (λ (n : NameBook). length n.tables) names

-- the tables of the final rows have names
pub final_named : (e : EngineModel) (s : Setup) (rows : List (Cell × ℤ)) → store_of s ≡ e.store → s.names ≡ e.names → IsWhole (setup_view s) → IsOfEngine e → AreFinalRows e.store e.events rows
    → RowsNamed e.names rows
final_named e s rows store names whole of final =
    let starts : (x : Cell) (v : ℤ) → row_of e.store.rows x ≡ Some v → CellWithin e.store x =
    subst (λ (X : Store). (x : Cell) (v : ℤ) → row_of X.rows x ≡ Some v → CellWithin X x) store (λ x v. row_within (length s.names.tables) s.rows x v whole.cells) in
    subst (λ (k : ℕ). All (λ (r : Cell × ℤ). r.0.table.0 < k) rows) (same_tables e s store names) (rows_within e.store e.events rows starts (within e of).events final)

-- there are as many types as type names
same_types : (e : EngineModel) (s : Setup) → store_of s ≡ e.store → s.names ≡ e.names → IsWhole (setup_view s) → e.store.setup.types ≡ length e.names.types
same_types e s store names whole = sym (ap (λ (X : Store). X.setup.types) store) ∙ whole.types ∙ ap (λ (n : NameBook). length n.types) names

module _ (X : Store) (names : NameBook) (nodes : length X.setup.tree ≡ length names.nodes) (tables : X.tables ≡ length names.tables) (types : X.setup.types ≡ length names.types) where
  event_named : (ev : Event) → EventWithin X ev → EventNamed names ev
  event_named (event.Began t s k i) h = subst (λ (n : ℕ). k.0 < n) types h
  event_named (event.Got t x w v) h = cell_named X names nodes tables x h
  event_named (event.Put t x v) h = cell_named X names nodes tables x h
  event_named (event.Ready t) h = h
  event_named (event.Done t) h = h
  event_named (event.Gone t c) h = cause_named X names nodes tables c h
  event_named (event.Told t) h = h

  one_named : (ev : Event) → EventNamed names ev → (k : ℕ) (d : Event) → k < length (ev ∷ []) → EventNamed names (get_or (ev ∷ []) k d)
  one_named ev h zero d low = h
  one_named ev h (suc k) d low = absurd (omega (arith, low))

  all_named : (H : List Event) → AllWithin X H → All (EventNamed names) (reverse H)
  all_named [] h = λ k d low. absurd (omega (arith, low))
  all_named (ev ∷ P) h =
      subst (All (EventNamed names)) (sym (reverse-append (ev ∷ []) P)) (All-append (EventNamed names) (reverse P) (ev ∷ []) (all_named P h.1) (one_named ev (event_named ev h.0)))

-- the nodes, tables and types of a history have names
pub events_named : (e : EngineModel) (s : Setup) → store_of s ≡ e.store → s.names ≡ e.names → IsWhole (setup_view s) → IsOfEngine e → length e.store.setup.tree ≡ length e.names.nodes
    → All (EventNamed e.names) (reverse e.events)
events_named e s store names whole of nodes =
    all_named e.store e.names nodes (same_tables e s store names) (same_types e s store names whole) e.events (within e of).events
