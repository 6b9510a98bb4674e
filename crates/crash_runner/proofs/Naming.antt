-- The nodes and tables in the output of a run on a disk have names.
use Rattle.std.proofs.Common.{◌≡◌, ℕ, Bool, List, [], ◌∷◌, ◌++◌, refl, sym, ◌∙◌, ap, subst, arith, length-append, ℤ}
use Rattle.std.specs.Prelude.{All}
use Rattle.std.proofs.Math.ListN.{get_or-append}
use Rattle.std.proofs.lemmas.List.{append-nil}
use Rattle.teb_rules.specs.declared.names.Cell.{Cell}
use Rattle.teb_rules.specs.declared.history.Event.{Event}
use Rattle.teb_rules.specs.Run.{history_after}
use Rattle.engine_core.specs.EngineModel.{IsReached}
use Rattle.teb_rules.specs.Epochs.{AreFinalRows}
use Rattle.script_text.specs.declared.Answered.{Answered}
use Rattle.script_text.specs.Named.{ReplyNamed, RowsNamed}
use Rattle.script_runner.specs.replay.Logs.{Requests, log_of}
use Rattle.store_setup.specs.SetupView.{SetupView}
use Rattle.store_setup.specs.Sound.{IsWhole, IsNamed}
use Rattle.store_setup.specs.Stores.{store_of_view, names_of}
use Rattle.script_runner.specs.Runs.{IsRunOver}
use Rattle.printed_run.proofs.Histories.{rows_named}
use Rattle.script_runner.proofs.Runs.{history_over, replies_named}
use Rattle.crash_runner.specs.Crashes.{Course, Through, AtOnce, AtCommit}

all_front : {A : Type 0} (P : A → Type 0) (xs ys : List A) → All P (xs ++ ys) → All P xs
all_front P xs ys all k d low = subst P (get_or-append xs ys d k low) (all k d (omega (arith, low, length-append xs ys)))

-- the replies that were given are the first of the log
given_first : (stop : ℕ) (log : List Answered) (commits : ℕ) (given : List Answered) (stopped : Bool) (kept : ℕ) → Course stop log commits given stopped kept → (more : List Answered)
    × (log ≡ given ++ more)
given_first stop log commits given stopped kept (Through b all s n) = ([], sym all ∙ sym (append-nil given))
given_first stop log commits given stopped kept (AtOnce b c none s n) = (log, ap (λ (w : List Answered). w ++ log) (sym none))
given_first stop log commits given stopped kept (AtCommit b c n before s) = (before.commit ∷ before.behind, before.parts)

module _ (m : SetupView) (whole : IsWhole m) (nodes : IsNamed m) where
  over : (asked : Requests) (H : List Event) → H ≡ history_after (store_of_view m) [] asked → IsRunOver m (store_of_view m) (names_of m) (log_of (store_of_view m) [] asked) H
  over asked H is = record { whole = whole; nodes = nodes; store = refl; named = refl; asked = asked; replies = refl; events = is }

  pub given_named : (asked : Requests) (stop commits : ℕ) (given : List Answered) (stopped : Bool) (kept : ℕ) → Course stop (log_of (store_of_view m) [] asked) commits given stopped kept
      → All (λ (a : Answered). ReplyNamed (names_of m) a.reply) given
  given_named asked stop commits given stopped kept course =
      let front = given_first stop (log_of (store_of_view m) [] asked) commits given stopped kept course in
      let all = replies_named m (store_of_view m) (names_of m) (log_of (store_of_view m) [] asked) (history_after (store_of_view m) [] asked)
      (over asked (history_after (store_of_view m) [] asked) refl) (names_of m) (given ++ front.0) refl (sym front.1) in
      all_front (λ (a : Answered). ReplyNamed (names_of m) a.reply) given front.0 all

  pub kept_named : (H : List Event) → IsReached (store_of_view m) H → (rows : List (Cell × ℤ)) → AreFinalRows (store_of_view m) H rows → RowsNamed (names_of m) rows
  kept_named H r rows f = rows_named m (store_of_view m) (names_of m) H (history_over m (store_of_view m) (names_of m) (log_of (store_of_view m) [] r.0) H (over r.0 H r.1)) rows f
