-- A pair of parts, and the pairs one after another.
use Rattle.std.proofs.Common.{◌≡◌, ℕ, zero, suc, ◌+◌, ◌-◌, ◌*◌, ◌<◌, ◌≤◌, ◌==◌, true, false, Bool, cond, not, List, [], ◌∷◌, ◌++◌, length}
use Rattle.std.proofs.Common.{length-append, drop, get_or, Option, Some, None, Result, Ok, Err, refl, sym, ◌∙◌, ap, arith, is_some}
use Rattle.std.specs.Prelude.{All, IfSome, nat_lt, slice_get}
use Rattle.std.specs.Borrow.{Bor}
use Rattle.std.specs.Option.{option_copied}
use Rattle.std.proofs.lemmas.Bool.Decides.{nat_tests}
use Rattle.std.proofs.lemmas.List.{append-nil, drop_more, length-drop}
use Rattle.std.proofs.lemmas.Option.{slice_get-get_or}
use Rattle.script_text.specs.declared.Line.{Line}
use Rattle.script_text.specs.declared.error.ScriptError.{ScriptError}
use Rattle.script_text.specs.declared.error.ScriptError.TheVariants.{BadLine}
use Rattle.script_text.specs.declared.error.ScriptError.TheVariants as script
use Rattle.script_text.specs.Grammar.{script_of}
use Rattle.script_text.specs.Grammar as grammar
use Rattle.store_setup.specs.SetupView.{SetupView}
use Rattle.tree_toml.specs.SetupText.{setup_of_text}
use Rattle.tree_switch.specs.Names.{same_names}
use Rattle.script_text.specs.declared.input.TheConstants.{MOST_BYTES}
use Rattle.input_reader.specs.declared.error.InputError.{InputError}
use Rattle.input_reader.specs.declared.error.InputError.TheVariants as input
use Rattle.input_reader.specs.Inputs.{script_error}
use Rattle.store_setup.specs.Stores.{names_of}
use Rattle.input_reader.specs.Tasks.{Task}
use Rattle.phase_runner.specs.declared.error.PhaseError.{PhaseError}
use Rattle.phase_runner.specs.declared.error.PhaseError.TheVariants.{BadPhase, BadInput}
use Rattle.phase_runner.specs.declared.error.PhaseWhy.TheVariants.{Tables, Rows}
use Rattle.phase_runner.specs.Inputs.{following, task_at, tasks_from}
use Rattle.phase_runner.specs.Parts.{Pair, pairs_of, texts}
use Rattle.phase_runner.specs.Readings.{IsRead}
use Rattle.phase_runner.proofs.Following.{behind, one_bad, one_read}

abbrev IsTask : Result Task PhaseError → Result Task PhaseError → Type 0
IsTask = IsRead (λ (task : Task). task)

abbrev guarded : ℕ → Bool → Bool → Result (Unit {0}) PhaseError
guarded k c d = cond c (Err (BadPhase k Tables)) (cond d (Err (BadPhase k Rows)) (Ok tt))

never_input : (k : ℕ) (c d : Bool) (x : InputError) → guarded k c d ≡ Err (BadInput x) → ⊥
never_input k true d x e = absurd (cc)
never_input k false true x e = absurd (cc)
never_input k false false x e = absurd (cc)

-- a fault that `following` finds is never a fault of a part
following_bad : (k : ℕ) (before : Option Task) (m : SetupView) (x : InputError) → following k before m ≡ Err (BadInput x) → ⊥
following_bad k None m x e = absurd (cc)
following_bad k (Some b) m x e = never_input k (not (same_names m.tables b.setup.tables)) (not (length m.rows == 0)) x e

module _ (k : ℕ) (before : Option Task) (p : Pair) (m : SetupView) (setup : setup_of_text p.0 ≡ Ok m) where
  pub is_refused : (w : PhaseError) → following k before m ≡ Err w → IsTask (Err w) (task_at k before p)
  is_refused (BadPhase n why) f = rw (setup, f) refl
  is_refused (BadInput x) f = absurd (following_bad k before m x f)

  module _ (u : Unit {0}) (follows : following k before m ≡ Ok u) where
    pub is_bad : (e : ScriptError) → grammar.Answers (Err e) (script_of (names_of m) m.format p.1) → IsTask (Err (BadInput (script_error e))) (task_at k before p)
    is_bad (BadLine n why) s = rw (setup, follows, s) refl
    is_bad script.OutOfMemory s = tt

    pub is_task : (task : Task) (lines : List Line) → script_of (names_of m) m.format p.1 ≡ Ok lines → task ≡ record { setup = m; lines = lines } → IsTask (Ok task) (task_at k before p)
    is_task task lines s t = rw (t, setup, follows, s) refl

-- the last task that was read
abbrev pub last_of : List Task → Option Task
last_of xs = slice_get xs (length xs - 1)

last_pushed : (xs : List Task) (task : Task) (n : ℕ) → n ≡ length xs → slice_get (xs ++ task ∷ []) n ≡ Some task
last_pushed [] task n e = rw e refl
last_pushed (x ∷ xs) task zero e = absurd (omega (arith, e))
last_pushed (x ∷ xs) task (suc n) e = last_pushed xs task n (omega (arith, e))

last_is : (xs : List Task) (task : Task) → last_of (xs ++ task ∷ []) ≡ Some task
last_is xs task = last_pushed xs task (length (xs ++ task ∷ []) - 1) (omega (arith, length-append xs (task ∷ [])))

-- the last element of a list, as a lookup returns it
pub back_is : (xs : List Task) (r : Option (Bor Task)) → is_some r ≡ nat_lt 0 (length xs) → IfSome r (λ x. x.now ≡ get_or xs (length xs - 1) x.now) → option_copied r ≡ last_of xs
back_is [] None s l = refl
back_is (x ∷ xs) None s l = absurd (let z : false ≡ true = grind (arith, nat_tests) in cc)
back_is [] (Some b) s l = absurd (let z : true ≡ false = grind (arith, nat_tests) in cc)
back_is (x ∷ xs) (Some b) s l = ap (λ (t : Task). let o : Option Task = Some t in o) l ∙ sym (slice_get-get_or (x ∷ xs) (length (x ∷ xs) - 1) b.now (omega arith))

-- the parts of pair i
pub pairs_at : (parts : List (Bor (List ℕ))) (i : ℕ) (d e : Bor (List ℕ)) → 2 * i + 1 < length parts
    → pairs_of (texts (drop (2 * i) parts)) ≡ ((get_or parts (2 * i) d).now, (get_or parts (2 * i + 1) e).now) ∷ pairs_of (texts (drop (2 * (i + 1)) parts))
pairs_at parts i d e h =
    let next : 2 * i + 1 + 1 ≡ 2 * (i + 1) = omega arith in
    let first : drop (2 * i) parts ≡ get_or parts (2 * i) d ∷ drop (2 * i + 1) parts = drop_more parts (2 * i) d (omega (arith, h)) in
    let second : drop (2 * i + 1) parts ≡ get_or parts (2 * i + 1) e ∷ drop (2 * (i + 1)) parts = drop_more parts (2 * i + 1) e h ∙ ap (λ (n : ℕ). get_or parts (2 * i + 1) e ∷ drop n parts) next in
    ap (λ (ps : List (Bor (List ℕ))). pairs_of (texts ps)) (first ∙ ap (λ (ps : List (Bor (List ℕ))). get_or parts (2 * i) d ∷ ps) second)

pub small_at : (parts : List (Bor (List ℕ))) (j : ℕ) (d : Bor (List ℕ)) → All (λ (p : List ℕ). length p ≤ MOST_BYTES) (texts parts) → j < length parts → length (get_or parts j d).now ≤ MOST_BYTES
small_at [] j d all h = absurd (omega (arith, h))
small_at (p ∷ ps) zero d all h = all 0 [] (omega arith)
small_at (p ∷ ps) (suc j) d all h = small_at ps j d (λ k e low. all (suc k) e (omega (arith, low))) (omega (arith, h))

no_pair : (ps : List (Bor (List ℕ))) → length ps ≤ 1 → pairs_of (texts ps) ≡ []
no_pair [] h = refl
no_pair (p ∷ []) h = refl
no_pair (p ∷ q ∷ ps) h = absurd (omega (arith, h))

-- the result for all pairs, if the first i of them are already read
abbrev pub from_pair : List (Bor (List ℕ)) → ℕ → List Task → Result (List Task) PhaseError
from_pair parts i xs = behind xs (tasks_from (i + 1) (last_of xs) (pairs_of (texts (drop (2 * i) parts))))

module _ (parts : List (Bor (List ℕ))) (i : ℕ) (xs : List Task) where
  pub all_read : length parts ≤ 2 * i + 1 → from_pair parts i xs ≡ Ok xs
  all_read h =
      let none : pairs_of (texts (drop (2 * i) parts)) ≡ [] = no_pair (drop (2 * i) parts) (omega (arith, h, length-drop (2 * i) parts)) in
      ap (λ (ps : List Pair). behind xs (tasks_from (i + 1) (last_of xs) ps)) none ∙ ap (λ (w : List Task). let r : Result (List Task) PhaseError = Ok w in r) (append-nil xs)

  module _ (d e : Bor (List ℕ)) (more : 2 * i + 1 < length parts) (r : Option (Bor Task)) (some : is_some r ≡ nat_lt 0 (length xs)) (last : IfSome r (λ x. x.now ≡ get_or xs (length xs - 1) x.now))
    where
      here : from_pair parts i xs ≡ behind xs (tasks_from (i + 1) (option_copied r) (((get_or parts (2 * i) d).now, (get_or parts (2 * i + 1) e).now) ∷ pairs_of (texts (drop (2 * (i + 1)) parts))))
      here = ap (λ (ps : List Pair). behind xs (tasks_from (i + 1) (last_of xs) ps)) (pairs_at parts i d e more)
          ∙ ap (λ (o : Option Task). behind xs (tasks_from (i + 1) o (((get_or parts (2 * i) d).now, (get_or parts (2 * i + 1) e).now) ∷ pairs_of (texts (drop (2 * (i + 1)) parts)))))
          (sym (back_is xs r some last))

      pub pair_read : (task : Task) (now : List Task) → task_at (i + 1) (option_copied r) ((get_or parts (2 * i) d).now, (get_or parts (2 * i + 1) e).now) ≡ Ok task → now ≡ xs ++ task ∷ []
          → from_pair parts (i + 1) now ≡ from_pair parts i xs
      pair_read task now t n =
          ap (λ (w : List Task). from_pair parts (i + 1) w) n
          ∙ ap (λ (o : Option Task). behind (xs ++ task ∷ []) (tasks_from (i + 1 + 1) o (pairs_of (texts (drop (2 * (i + 1)) parts))))) (last_is xs task)
          ∙ sym (one_read xs (i + 1) (option_copied r) ((get_or parts (2 * i) d).now, (get_or parts (2 * i + 1) e).now) (pairs_of (texts (drop (2 * (i + 1)) parts))) task t)
          ∙ sym here

      bad : (w : PhaseError) → task_at (i + 1) (option_copied r) ((get_or parts (2 * i) d).now, (get_or parts (2 * i + 1) e).now) ≡ Err w → from_pair parts i xs ≡ Err w
      bad w t = here ∙ one_bad xs (i + 1) (option_copied r) ((get_or parts (2 * i) d).now, (get_or parts (2 * i + 1) e).now) (pairs_of (texts (drop (2 * (i + 1)) parts))) w t

      pub pair_bad : {A : Type 0} (view : A → List Task) (w : PhaseError) → IsTask (Err w) (task_at (i + 1) (option_copied r) ((get_or parts (2 * i) d).now, (get_or parts (2 * i + 1) e).now))
          → IsRead view (Err w) (from_pair parts i xs)
      pair_bad view (BadPhase n why) t = bad (BadPhase n why) t
      pair_bad view (BadInput input.ReadFault) t = t
      pair_bad view (BadInput input.TooLong) t = bad (BadInput input.TooLong) t
      pair_bad view (BadInput input.NoSeparator) t = bad (BadInput input.NoSeparator) t
      pair_bad view (BadInput (input.BadTree why)) t = bad (BadInput (input.BadTree why)) t
      pair_bad view (BadInput (input.BadLine n why)) t = bad (BadInput (input.BadLine n why)) t
      pair_bad view (BadInput input.OutOfMemory) t = tt
