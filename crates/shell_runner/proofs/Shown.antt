-- A tree text is shown, or it is not.
use Rattle.std.proofs.Common.{◌≡◌, ℕ, ◌<◌, ◌≤◌, Bool, true, false, ℤ, List, length, Result, Ok, Err, ap, ◌∙◌, sym, refl, subst}
use Rattle.std.specs.Prelude.{IfOk, nat_le, if◌then◌else◌}
use Rattle.std.proofs.lemmas.Bool.{le-leb, lt-leb}
use Rattle.teb_rules.specs.declared.names.Cell.{Cell}
use Rattle.teb_rules.specs.declared.names.rows.TheConstants.{MOST_ROWS}
use Rattle.shell_lines.specs.Answers.{unable_text}
use Rattle.shell_lines.specs.declared.line.Unable.TheVariants as unable
use Rattle.tree_writer.specs.Written.{tree_text}
use Rattle.teb_rules.specs.Epochs.{AreFinalRows}
use Rattle.shell_runner.specs.Answers.{IsAnswered, ShowsDump, State}
use Rattle.shell_lines.specs.declared.line.ShellLine.{ShellLine}
use Rattle.shell_lines.specs.declared.line.ShellLine.TheVariants.{Dump}
use Rattle.shell_runner.specs.declared.step.After.{After}
use Rattle.shell_runner.specs.declared.step.After.TheVariants.{Bad, Next, Stopped}

pub dumped : (n : ℕ) (s : State) (rows : List (Cell × ℤ)) (text : List ℕ) → AreFinalRows s.stored.store s.stored.events rows → length rows ≤ MOST_ROWS
    → text ≡ tree_text s.format s.stored.names s.stored.store.setup.profiles s.stored.store.setup.tree rows → ShowsDump n s text Next
dumped n s rows text final few shown =
    let e : nat_le (length rows) MOST_ROWS ≡ true = le-leb (length rows) MOST_ROWS few in
    record {
      rows = rows;
      final = final;
      shown = shown ∙ ap (λ (b : Bool). if b then tree_text s.format s.stored.names s.stored.store.setup.profiles s.stored.store.setup.tree rows else unable_text n unable.ManyRows) (sym e);
      goes_on = ap (λ (b : Bool). if b then Next else Bad) (sym e);
    }

pub not_dumped : (n : ℕ) (s : State) (rows : List (Cell × ℤ)) (text : List ℕ) → AreFinalRows s.stored.store s.stored.events rows → MOST_ROWS < length rows → text ≡ unable_text n unable.ManyRows
    → ShowsDump n s text Bad
not_dumped n s rows text final many shown =
    let e : nat_le (length rows) MOST_ROWS ≡ false = lt-leb (length rows) MOST_ROWS many in
    record {
      rows = rows;
      final = final;
      shown = shown ∙ ap (λ (b : Bool). if b then tree_text s.format s.stored.names s.stored.store.setup.profiles s.stored.store.setup.tree rows else unable_text n unable.ManyRows) (sym e);
      goes_on = ap (λ (b : Bool). if b then Next else Bad) (sym e);
    }

pub dump_answered : {E : Type 0} (n : ℕ) (s : State) (l : ShellLine) (text : List ℕ) (r : Result After E) → l ≡ Dump → IfOk r (ShowsDump n s text)
    → IfOk r (λ (after : After). IsAnswered n s l text after s)
dump_answered n s l text (Ok a) e h = subst (λ (x : ShellLine). IsAnswered n s x text a s) (sym e) (h, refl)
dump_answered n s l text (Err x) e h = tt

pub dump_goes_on : {E : Type 0} (n : ℕ) (s : State) (text : List ℕ) (r : Result After E) → IfOk r (ShowsDump n s text) → IfOk r (λ (after : After). after ≡ Stopped → ⊥)
dump_goes_on n s text (Ok a) h = λ p. go (nat_le (length h.rows) MOST_ROWS) (sym p ∙ h.goes_on)
  where
    go : (b : Bool) → Stopped ≡ (if b then Next else Bad) → ⊥
    go true q = absurd (cc)
    go false q = absurd (cc)
dump_goes_on n s text (Err x) h = tt
