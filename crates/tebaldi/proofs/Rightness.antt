-- How a command ends, given what was read and what was written.
use Rattle.std.proofs.Common.{◌≡◌, ◌≢◌, ℕ, List, [], Option, Some, None, Result, Ok, Err, IfOk, MatchResult, length, inl, refl, sym, ◌∙◌, ap, subst}
use Rattle.std.proofs.lemmas.List.{append-nil}
use Rattle.std.specs.Io.KnownBytes.{Keeps, Appends}
use Rattle.std.proofs.lemmas.Bool.{le-ltb, lt-ltb}
use Rattle.std.specs.Prelude.{Vec}
use Rattle.std.specs.declared.alloc.Global.{Global}
use Rattle.teb_io.specs.declared.source.ReadError.{ReadError}
use Rattle.teb_io.specs.declared.source.ReadError.TheVariants as read
use Rattle.script_text.specs.declared.input.TheConstants.{MOST_BYTES}
use Rattle.input_reader.specs.Reads.{read_error}
use Rattle.std.specs.declared.alloc.AllocError.{AllocError}
use Rattle.teb_rules.specs.declared.history.Event.{Event}
use Rattle.store_setup.specs.SetupView.{SetupView}
use Rattle.command_output.specs.Shown.{Shown, events_of}
use Rattle.input_reader.specs.declared.error.InputError.{InputError}
use Rattle.input_reader.specs.declared.error.InputError.TheVariants.{ReadFault, TooLong, NoSeparator, BadTree, BadLine, OutOfMemory}
use Rattle.input_reader.specs.Inputs.{input_of}
use Rattle.input_reader.specs.Readings.{AreOf, AreReadFrom, IsReadFrom}
use Rattle.input_reader.specs.Refusals.{ShowsInput, IsSetUp, refusal}
use Rattle.input_reader.specs.Tasks.{Task}
use Rattle.script_runner.specs.Runs.{IsSerialized}
use Rattle.audit_check.specs.Audit.{IsAudited}
use Rattle.audit_runner.specs.Verdicts.{verdict}
use Rattle.hall_runner.specs.Outcomes.{IsServedBy, history_in}
use Rattle.hall_runner.specs.declared.served.Served.{Served}
use Rattle.hall_runner.specs.declared.served.Served.TheVariants.{Through, Spent}
use Rattle.output_writer.specs.Endings.{IsWritten}
use Rattle.tebaldi.specs.Endings.{IsServedAndWritten, IsRight}
use Rattle.tebaldi.specs.Shows.{Ends, SetsUp, ServesInput, ShowsBytes, IsAlone, IsAuditedYes}
use Rattle.command_words.specs.declared.command.Command.{Command}
use Rattle.command_words.specs.declared.command.Command.TheVariants.{Threads, Pool}
use Rattle.tebaldi.specs.declared.ended.Ended.{Ended}

-- a history that is serialized over some setup of one kind is so over a setup of any wider kind
serialized_over : (P Q : SetupView → Type 0) → ((m : SetupView) → P m → Q m) → (h : Option (List Event)) → IsSerialized P h → IsSerialized Q h
serialized_over P Q f None s = tt
serialized_over P Q f (Some h) s = (s.0, f s.0 s.1, s.2)

-- the same for the setup of a task that was read from bytes
serialized_by : (bytes : List ℕ) (task : Task) (Q : SetupView → Type 0) → ((m : SetupView) → IsSetUp bytes m → Q m) → input_of bytes ≡ Ok task → (kept h : Option (List Event)) → kept ≡ h
    → IsSerialized (λ (m : SetupView). task.setup ≡ m) h → IsSerialized Q kept
serialized_by bytes task Q f read kept h same s =
    let setup : (m : SetupView) → task.setup ≡ m → Q m = λ m e. f m (rw read e) in
    subst (IsSerialized Q) (sym same) (serialized_over (λ (m : SetupView). task.setup ≡ m) Q setup h s)

nothing_added : (before now : Option (List ℕ)) → Keeps before now → Appends before now []
nothing_added None now k = tt
nothing_added (Some xs) None k = k
nothing_added (Some xs) (Some ys) k = k ∙ sym (append-nil xs)

-- a command with refused input ends in that refusal
pub refusal_ends : (e : Ended) (command : Option Command) (R : Task → Shown → Type 0) → ((bytes : List ℕ) (d : Shown) → ShowsInput R bytes d → Ends command bytes e d)
    → (bytes : List ℕ) (why : InputError) → input_of bytes ≡ Err why → Ends command bytes e (refusal why)
refusal_ends e command R ends bytes why is = ends bytes (refusal why) (rw is refl)

pub threads_refused : (workers : ℕ) (e : Ended) → IsAlone e → (bytes : List ℕ) (why : InputError) → input_of bytes ≡ Err why → Ends (Some (Threads workers)) bytes e (refusal why)
threads_refused workers e alone bytes why is = rw is (refl, alone)

pub pool_refused : (workers : ℕ) (e : Ended) → IsAlone e → (bytes : List ℕ) (why : InputError) → input_of bytes ≡ Err why → Ends (Some (Pool workers)) bytes e (refusal why)
pool_refused workers e alone bytes why is = rw is (refl, alone)

-- a text that passes the audit is one that `audit` accepts
audited_yes : (text : List ℕ) → IsAudited text → IsAuditedYes text
audited_yes text is few = rw (le-ltb MOST_BYTES (length text) few) (sym (ap verdict is))

module _ (left rest : Option (List ℕ)) (e : Ended) (before now : Option (List ℕ)) where
  -- a command whose input is refused
  module _ (command : Option Command) (ends : (bytes : List ℕ) (why : InputError) → input_of bytes ≡ Err why → Ends command bytes e (refusal why)) where
    refused : (why : InputError) (bytes : List ℕ) → AreOf left rest bytes → input_of bytes ≡ Err why → IsWritten (refusal why) e.status e.history before now → e.history ≡ None
        → IsRight command left rest e before now
    refused why bytes of is written none = record {
      bytes = bytes;
      read = λ _. of;
      shown = refusal why;
      ends = ends bytes why is;
      written = written;
      serialized = rw none tt;
    }

    pub refused_of : (why : InputError) → IsReadFrom left rest (Err why) → IsWritten (refusal why) e.status e.history before now → e.history ≡ None → (why ≡ ReadFault → e.status ≡ 3)
        → (why ≡ OutOfMemory → e.status ≡ 8) → e.status ≢ 3 → e.status ≢ 8 → IsRight command left rest e before now
    refused_of ReadFault read written none fault memory nf nm = absurd (nf (fault refl))
    refused_of OutOfMemory read written none fault memory nf nm = absurd (nm (memory refl))
    refused_of TooLong read written none fault memory nf nm = refused TooLong read.0 read.1 read.2 written none
    refused_of NoSeparator read written none fault memory nf nm = refused NoSeparator read.0 read.1 read.2 written none
    refused_of (BadTree why) read written none fault memory nf nm = refused (BadTree why) read.0 read.1 read.2 written none
    refused_of (BadLine n why) read written none fault memory nf nm = refused (BadLine n why) read.0 read.1 read.2 written none

  -- a command whose output relates to its input by R
  module _ (command : Option Command) (R : Task → Shown → Type 0) (ends : (bytes : List ℕ) (d : Shown) → ShowsInput R bytes d → Ends command bytes e d)
      (sets_up : (bytes : List ℕ) (m : SetupView) → IsSetUp bytes m → SetsUp command bytes m) where
    pub right_of : (task : Task) → IsReadFrom left rest (Ok task) → (r : Result Shown AllocError) → IfOk r (R task) → IfOk r (λ o. IsSerialized (λ m. task.setup ≡ m) o.history)
        → MatchResult r (λ o. IsWritten o e.status e.history before now) (λ _. e.status ≡ 8) → e.status ≢ 8 → IsRight command left rest e before now
    right_of task read (Ok o) ran serialized written ne = record {
      bytes = read.0;
      read = λ _. read.1;
      shown = o;
      ends = ends read.0 o (rw read.2 ran);
      written = written;
      serialized = serialized_by read.0 task (SetsUp command read.0) (sets_up read.0) read.2 (events_of e.history) o.history written.history serialized;
    }
    right_of task read (Err w) ran serialized written ne = absurd (ne written)

  -- a command that takes its bytes as they are and keeps no history
  module _ (command : Option Command) (R : List ℕ → Shown → Type 0) (ends : (bytes : List ℕ) (d : Shown) → ShowsBytes (λ text. R text d) bytes d → Ends command bytes e d) where
    shown_bytes : (d : Shown) (bytes : List ℕ) → AreOf left rest bytes → ShowsBytes (λ text. R text d) bytes d → d.history ≡ None → IsWritten d e.status e.history before now
        → IsRight command left rest e before now
    shown_bytes d bytes of shows none written = record {
      bytes = bytes;
      read = λ _. of;
      shown = d;
      ends = ends bytes d shows;
      written = written;
      serialized = subst (IsSerialized (SetsUp command bytes)) (sym (written.history ∙ none)) tt;
    }

    pub bytes_of : (text : Vec ℕ Global) → AreReadFrom left rest (Ok text) → (r : Result Shown AllocError) → IfOk r (R text.items) → IfOk r (λ o. o.history ≡ None)
        → MatchResult r (λ o. IsWritten o e.status e.history before now) (λ _. e.status ≡ 8) → e.status ≢ 8 → IsRight command left rest e before now
    bytes_of text read (Ok o) is none written ne = shown_bytes o text.items read.0 (rw (le-ltb MOST_BYTES (length text.items) read.1) is) none written
    bytes_of text read (Err w) is none written ne = absurd (ne written)

    pub bytes_refused : (why : ReadError) → AreReadFrom left rest (Err why) → (x : InputError) → x ≡ read_error why → IsWritten (refusal x) e.status e.history before now
        → (x ≡ ReadFault → e.status ≡ 3) → (x ≡ OutOfMemory → e.status ≡ 8) → e.status ≢ 3 → e.status ≢ 8 → IsRight command left rest e before now
    bytes_refused read.ReadFault are x is written fault memory nf nm = absurd (nf (fault is))
    bytes_refused read.OutOfMemory are x is written fault memory nf nm = absurd (nm (memory is))
    bytes_refused read.TooLong are x is written fault memory nf nm = shown_bytes (refusal TooLong) are.0 are.1 (rw (lt-ltb MOST_BYTES (length are.0) are.2) refl) refl
        (subst (λ (y : InputError). IsWritten (refusal y) e.status e.history before now) is written)

  -- a command that serves with several threads
  module _ (command : Option Command) (ends : (bytes : List ℕ) (d : Shown) → ServesInput bytes e d → Ends command bytes e d)
      (sets_up : (bytes : List ℕ) (m : SetupView) → IsSetUp bytes m → SetsUp command bytes m) where
    served_by : (task : Task) → IsReadFrom left rest (Ok task) → (r : Result Served AllocError) → IfOk r (IsServedBy task) → IfOk r (λ s. IsSerialized (λ m. task.setup ≡ m) (history_in s))
        → MatchResult r (λ s. IsServedAndWritten s e before now) (λ _. e.status ≡ 8) → e.status ≢ 8 → IsRight command left rest e before now
    served_by task read (Ok (Through o entries)) served serialized written ne = record {
      bytes = read.0;
      read = λ _. read.1;
      shown = o;
      ends = ends read.0 o (rw (read.2, written.1, written.2) (served, audited_yes o.text served.audited));
      written = written.0;
      serialized = serialized_by read.0 task (SetsUp command read.0) (sets_up read.0) read.2 (events_of e.history) o.history written.0.history serialized;
    }
    served_by task read (Ok (Spent p)) spent serialized written ne = record {
      bytes = read.0;
      read = λ _. read.1;
      shown = record { status = 10; text = []; history = None };
      ends = ends read.0 (record { status = 10; text = []; history = None }) (rw (read.2, written.3, written.4) ((spent, refl), tt));
      written = record { written = inl (written.0, nothing_added before now written.1); history = rw written.2 refl };
      serialized = rw written.2 tt;
    }
    served_by task read (Err w) served serialized written ne = absurd (ne written)

  module _ (workers : ℕ) where
    pub served_of : (task : Task) → IsReadFrom left rest (Ok task) → (r : Result Served AllocError) → IfOk r (IsServedBy task) → IfOk r (λ s. IsSerialized (λ m. task.setup ≡ m) (history_in s))
        → MatchResult r (λ s. IsServedAndWritten s e before now) (λ _. e.status ≡ 8) → e.status ≢ 8 → IsRight (Some (Threads workers)) left rest e before now
    served_of task read r served serialized written ne = served_by (Some (Threads workers)) (λ bytes d s. s) (λ bytes m s. s) task read r served serialized written ne

    pub pooled_of : (task : Task) → IsReadFrom left rest (Ok task) → (r : Result Served AllocError) → IfOk r (IsServedBy task) → IfOk r (λ s. IsSerialized (λ m. task.setup ≡ m) (history_in s))
        → MatchResult r (λ s. IsServedAndWritten s e before now) (λ _. e.status ≡ 8) → e.status ≢ 8 → IsRight (Some (Pool workers)) left rest e before now
    pooled_of task read r served serialized written ne = served_by (Some (Pool workers)) (λ bytes d s. s) (λ bytes m s. s) task read r served serialized written ne
