-- Everything that replies and events of a store name has a name, if its setup is whole and its nodes are named.
use Rattle.std.proofs.Common.{ℕ, ◌<◌, List, [], ◌∷◌, reverse, sym, subst}
use Rattle.std.proofs.lemmas.List.{reverse-append}
use Rattle.std.specs.Prelude.{All}
use Rattle.std.proofs.lemmas.List.Elements.{All-nil, All-cons, All-append}
use Rattle.teb_rules.specs.declared.names.Node.{Node}
use Rattle.teb_rules.specs.declared.names.Cause.{Cause}
use Rattle.teb_rules.specs.declared.names.Cause.TheVariants as cause
use Rattle.teb_rules.specs.declared.names.Reply.{Reply}
use Rattle.teb_rules.specs.declared.names.Reply.TheVariants as reply
use Rattle.teb_rules.specs.declared.history.Event.{Event}
use Rattle.teb_rules.specs.declared.history.Event.TheVariants as event
use Rattle.teb_rules.specs.laws.Within.{NodeWithin, CauseWithin, ReplyWithin, EventWithin, AllWithin}
use Rattle.script_text.specs.Named.{NodeNamed, CauseNamed, ReplyNamed, EventNamed}
use Rattle.store_setup.specs.SetupView.{SetupView}
use Rattle.store_setup.specs.Sound.{IsWhole, IsNamed}
use Rattle.store_setup.specs.Stores.{store_of_view, names_of}

module _ (m : SetupView) (whole : IsWhole m) (named : IsNamed m) where
  node_named : (n : Node) → NodeWithin (store_of_view m) n → NodeNamed (names_of m) n
  node_named n h = subst (λ (nodes : ℕ). n.0 < nodes) named h

  cause_named : (c : Cause) → CauseWithin (store_of_view m) c → CauseNamed (names_of m) c
  cause_named (cause.Late n r x) h = (node_named n h.0, h.1)
  cause_named (cause.First n w x) h = (node_named n h.0, h.1)
  cause_named (cause.Pivot n a b c d) h = node_named n h
  cause_named (cause.Newer n u) h = node_named n h
  cause_named (cause.After u) h = h
  cause_named cause.Asked h = h
  cause_named cause.Ended h = h

  pub reply_named : (r : Reply) → ReplyWithin (store_of_view m) r → ReplyNamed (names_of m) r
  reply_named (reply.Begun t) h = h
  reply_named (reply.Value v) h = h
  reply_named (reply.Values vs) h = h
  reply_named reply.Done h = h
  reply_named reply.Prepared h = h
  reply_named reply.Committed h = h
  reply_named (reply.Again u n) h = node_named n h
  reply_named (reply.Aborted c) h = cause_named c h
  reply_named (reply.Refused w) h = h

  event_named : (e : Event) → EventWithin (store_of_view m) e → EventNamed (names_of m) e
  event_named (event.Began t s k i) h = subst (λ (types : ℕ). k.0 < types) whole.types h
  event_named (event.Got t x u v) h = h
  event_named (event.Put t x v) h = h
  event_named (event.Ready t) h = h
  event_named (event.Done t) h = h
  event_named (event.Gone t c) h = cause_named c h
  event_named (event.Told t) h = h

  -- all events of a history have names, the oldest first
  pub all_named : (H : List Event) → AllWithin (store_of_view m) H → All (EventNamed (names_of m)) (reverse H)
  all_named [] h = All-nil (EventNamed (names_of m))
  all_named (e ∷ P) h = subst (All (EventNamed (names_of m))) (sym (reverse-append (e ∷ []) P))
      (All-append (EventNamed (names_of m)) (reverse P) (e ∷ []) (all_named P h.1) (All-cons (EventNamed (names_of m)) e [] (event_named e h.0) (All-nil (EventNamed (names_of m)))))
