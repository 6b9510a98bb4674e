-- The tasks of pairs, one after another.
use Rattle.std.proofs.Common.{◌≡◌, ℕ, ◌+◌, ◌==◌, true, false, Bool, cond, not, List, [], ◌∷◌, ◌++◌, length, append_assoc, Option, Some, None, Result, Ok, Err, refl, sym, ap, subst}
use Rattle.std.specs.Prelude.{◌/◌, ◌%◌, nat_lt}
use Rattle.std.proofs.lemmas.Bool.{not-false}
use Rattle.script_text.specs.declared.Line.{Line}
use Rattle.script_text.specs.declared.error.ScriptError.{ScriptError}
use Rattle.script_text.specs.Input.{parts_of}
use Rattle.script_text.specs.Grammar.{◌>>=◌, script_of}
use Rattle.store_setup.specs.SetupView.{SetupView}
use Rattle.tree_toml.specs.SetupText.{setup_of_text}
use Rattle.tree_switch.specs.Names.{same_names}
use Rattle.tree_switch.proofs.Refusing.{no_rows}
use Rattle.tree_switch.proofs.SameNames.{same_decides}
use Rattle.input_reader.specs.declared.error.InputError.TheVariants.{TooLong}
use Rattle.input_reader.specs.Inputs.{task_of}
use Rattle.store_setup.specs.Stores.{names_of}
use Rattle.input_reader.specs.Tasks.{Task}
use Rattle.phase_runner.specs.declared.error.PhaseError.{PhaseError}
use Rattle.phase_runner.specs.declared.error.PhaseError.TheVariants.{BadPhase, BadInput}
use Rattle.phase_runner.specs.declared.error.PhaseWhy.TheVariants.{Many, Script, Tables, Rows}
use Rattle.phase_runner.specs.Inputs.{following, is_long, phases_of, script_in, task_at, tasks_from, tree_in}
use Rattle.phase_runner.specs.Parts.{Pair, pairs_of}
use Rattle.phase_runner.specs.Steps.{AllFollow, AreFollowing}

-- if the whole result is Ok, so is its first step
gave : {A B : Type 0} (r : Result A PhaseError) (f : A → Result B PhaseError) (b : B) → r >>= f ≡ Ok b → (a : A) × (r ≡ Ok a) × (f a ≡ Ok b)
gave (Ok a) f b e = (a, refl, e)
gave (Err w) f b e = absurd (cc)

unless_fault : {B : Type 0} (c : Bool) (w : PhaseError) (r : Result B PhaseError) (b : B) → cond c (Err w) r ≡ Ok b → (c ≡ false) × (r ≡ Ok b)
unless_fault true w r b e = absurd (cc)
unless_fault false w r b e = (refl, e)

-- tasks that are already read, and then the result of the rest
abbrev pub behind : List Task → Result (List Task) PhaseError → Result (List Task) PhaseError
behind xs r = r >>= (λ later. Ok (xs ++ later))

one_more : (xs : List Task) (task : Task) (r : Result (List Task) PhaseError) → behind xs (r >>= (λ later. Ok (task ∷ later))) ≡ behind (xs ++ task ∷ []) r
one_more xs task (Ok later) = ap (λ (l : List Task). let r : Result (List Task) PhaseError = Ok l in r) (sym (append_assoc xs (task ∷ []) later))
one_more xs task (Err e) = refl

-- one more pair is read
pub one_read : (xs : List Task) (k : ℕ) (before : Option Task) (p : Pair) (more : List Pair) (task : Task) → task_at k before p ≡ Ok task → behind xs (tasks_from k before (p ∷ more)) ≡ behind
    (xs ++ task ∷ []) (tasks_from (k + 1) (Some task) more)
one_read xs k before p more task e = rw e (one_more xs task (tasks_from (k + 1) (Some task) more))

pub one_bad : (xs : List Task) (k : ℕ) (before : Option Task) (p : Pair) (more : List Pair) (w : PhaseError) → task_at k before p ≡ Err w → behind xs (tasks_from k before (p ∷ more)) ≡ Err w
one_bad xs k before p more w e = rw e refl

-- a setup that may follow the task before it
follows : (k : ℕ) (before : Task) (m : SetupView) (u : Unit {0}) → following k (Some before) m ≡ Ok u → (m.tables ≡ before.setup.tables) × (m.rows ≡ [])
follows k before m u e =
    let a = unless_fault (not (same_names m.tables before.setup.tables)) (BadPhase k Tables) _ u e in
    let b = unless_fault (not (length m.rows == 0)) (BadPhase k Rows) _ u a.1 in
    ((same_decides m.tables before.setup.tables).0 (not-false _ a.0), no_rows m.rows (not-false _ b.0))

setup_is : (m : SetupView) (r : Result (List Line) ScriptError) (task : Task) → script_in (task_of m r) ≡ Ok task → m ≡ task.setup
setup_is m (Ok lines) task e = let z : record { setup = m; lines = lines } ≡ task = cc in ap (λ (t : Task). t.setup) z
setup_is m (Err w) task e = absurd (cc)

task_follows : (k : ℕ) (before : Task) (p : Pair) (task : Task) → task_at k (Some before) p ≡ Ok task → (task.setup.tables ≡ before.setup.tables) × (task.setup.rows ≡ [])
task_follows k before p task e =
    let script = λ (m : SetupView). script_in (task_of m (script_of (names_of m) m.format p.1)) in
    let a = gave (tree_in (setup_of_text p.0)) (λ (m : SetupView). following k (Some before) m >>= (λ (u : Unit {0}). script m)) task e in
    let b = gave (following k (Some before) a.0) (λ (u : Unit {0}). script a.0) task a.2 in
    let f = follows k before a.0 b.0 b.1 in
    let s = setup_is a.0 (script_of (names_of a.0) a.0.format p.1) task b.2 in
    subst (λ (m : SetupView). (m.tables ≡ before.setup.tables) × (m.rows ≡ [])) s f

all_follow : (k : ℕ) (before : Task) (ps : List Pair) (tasks : List Task) → tasks_from k (Some before) ps ≡ Ok tasks → AllFollow before.setup.tables tasks
all_follow k before [] tasks e = let z : [] ≡ tasks = cc in subst (AllFollow before.setup.tables) z tt
all_follow k before (p ∷ ps) tasks e =
    let a = gave (task_at k (Some before) p) (λ (t : Task). tasks_from (k + 1) (Some t) ps >>= (λ (later : List Task). Ok (t ∷ later))) tasks e in
    let b = gave (tasks_from (k + 1) (Some a.0) ps) (λ (later : List Task). let r : Result (List Task) PhaseError = Ok (a.0 ∷ later) in r) tasks a.2 in
    let f = task_follows k before p a.0 a.1 in
    let ok = b.2 in
    let z : a.0 ∷ b.0 ≡ tasks = cc in
    subst (AllFollow before.setup.tables) z (f.0, f.1, subst (λ (names : List (List ℕ)). AllFollow names b.0) f.0 (all_follow (k + 1) a.0 ps b.0 b.1))

are_following : (k : ℕ) (ps : List Pair) (tasks : List Task) → tasks_from k None ps ≡ Ok tasks → AreFollowing tasks
are_following k [] tasks e = let z : [] ≡ tasks = cc in subst AreFollowing z tt
are_following k (p ∷ ps) tasks e =
    let a = gave (task_at k None p) (λ (t : Task). tasks_from (k + 1) (Some t) ps >>= (λ (later : List Task). Ok (t ∷ later))) tasks e in
    let b = gave (tasks_from (k + 1) (Some a.0) ps) (λ (later : List Task). let r : Result (List Task) PhaseError = Ok (a.0 ∷ later) in r) tasks a.2 in
    let ok = b.2 in
    let z : a.0 ∷ b.0 ≡ tasks = cc in
    subst AreFollowing z (all_follow (k + 1) a.0 ps b.0 b.1)

-- the tasks of an input follow one another
module _ (bytes : List ℕ) (parts : List (List ℕ)) where
  pub phases_follow : (tasks : List Task) → phases_of bytes parts ≡ Ok tasks → AreFollowing tasks
  phases_follow tasks e =
      let a = unless_fault (nat_lt 32 (length parts)) (BadPhase 17 Many) _ tasks e in
      let b = unless_fault (length parts % 2 == 1) (BadPhase (length parts / 2 + 1) Script) _ tasks a.1 in
      let c = unless_fault (is_long (parts_of bytes)) (BadInput TooLong) _ tasks b.1 in
      are_following 1 (pairs_of parts) tasks c.1
