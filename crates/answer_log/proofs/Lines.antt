-- The lines are the texts of the replies if all nodes and tables in them have names.
use Rattle.std.proofs.Common.{◌≡◌, ℕ, zero, true, List, [], ◌∷◌, ◌++◌, length, refl, ap₂, arith}
use Rattle.std.specs.Prelude.{All}
use Rattle.std.specs.List.{flat_map}
use Rattle.std.proofs.lemmas.Bool.{lt-ltb}
use Rattle.std.proofs.lemmas.List.Elements.{All-tail}
use Rattle.teb_rules.specs.declared.names.Cause.{Cause}
use Rattle.teb_rules.specs.declared.names.Cause.TheVariants as cause
use Rattle.teb_rules.specs.declared.names.Reply.{Reply}
use Rattle.teb_rules.specs.declared.names.Reply.TheVariants as reply
use Rattle.teb_rules.specs.declared.names.naming.NameBook.{NameBook}
use Rattle.script_text.specs.declared.Answered.{Answered}
use Rattle.script_text.specs.Named.{CauseNamed, ReplyNamed}
use Rattle.script_text.specs.Texts.{reply_text}
use Rattle.answer_log.specs.Lines.{is_cause_named, is_reply_named, line_of, lines_of}

module _ (names : NameBook) where
  cause_test : (c : Cause) → CauseNamed names c → is_cause_named names c ≡ true
  cause_test (cause.Late n r x) h = rw (lt-ltb n.0 (length names.nodes) h.0, lt-ltb x.table.0 (length names.tables) h.1) refl
  cause_test (cause.First n w x) h = rw (lt-ltb n.0 (length names.nodes) h.0, lt-ltb x.table.0 (length names.tables) h.1) refl
  cause_test (cause.Pivot n a b c d) h = lt-ltb n.0 (length names.nodes) h
  cause_test (cause.Newer n u) h = lt-ltb n.0 (length names.nodes) h
  cause_test (cause.After u) h = refl
  cause_test cause.Asked h = refl
  cause_test cause.Ended h = refl

  reply_test : (r : Reply) → ReplyNamed names r → is_reply_named names r ≡ true
  reply_test (reply.Begun t) h = refl
  reply_test (reply.Value v) h = refl
  reply_test (reply.Values vs) h = refl
  reply_test reply.Done h = refl
  reply_test reply.Prepared h = refl
  reply_test reply.Committed h = refl
  reply_test (reply.Again u n) h = lt-ltb n.0 (length names.nodes) h
  reply_test (reply.Aborted c) h = cause_test c h
  reply_test (reply.Refused w) h = refl

  line_named : (a : Answered) → ReplyNamed names a.reply → line_of names a ≡ reply_text names a
  line_named a h = rw (reply_test a.reply h) refl

  pub lines_named : (answers : List Answered) → All (λ (a : Answered). ReplyNamed names a.reply) answers → lines_of names answers ≡ flat_map (reply_text names) answers
  lines_named [] h = refl
  lines_named (a ∷ answers) h = ap₂ (λ (l ls : List ℕ). l ++ ls) (line_named a (h zero a (omega arith))) (lines_named answers (All-tail (λ (a : Answered). ReplyNamed names a.reply) a answers h))
