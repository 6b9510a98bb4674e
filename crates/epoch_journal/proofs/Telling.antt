-- What a disk tells of its records.
use Rattle.std.proofs.Common.{◌≡◌, inl, ⊎_elim, ℕ, ◌+◌, ◌<◌, ◌≤◌, true, cond, List, [], ◌∷◌, ◌++◌, length, take, Option}
use Rattle.std.proofs.Common.{Some, ℤ, Result, Ok, Err, refl, sym, ◌∙◌, ap, subst, arith, append_assoc, length-append}
use Rattle.std.specs.Prelude.{OnOk, OnErr, IfOk, IfErr}
use Rattle.std.proofs.lemmas.List.{take_at, take_all, take-append-le, append-nil}
use Rattle.teb_rules.specs.declared.names.Cell.{Cell}
use Rattle.teb_rules.specs.names.Cells.{same_cell}
use Rattle.teb_rules.specs.names.Rows.{row_of}
use Rattle.teb_rules.specs.Replay.{Values, put_in}
use Rattle.record_journal.specs.declared.change.Change.{Change}
use Rattle.record_journal.specs.Format.{Record, body}
use Rattle.record_journal.specs.Journal.{after_changes, after_records}
use Rattle.crash_disk.specs.Disk.{Only}
use Rattle.epoch_journal.specs.declared.current.Half.{Half}
use Rattle.epoch_journal.specs.Layout.{Layout, layout, other_half, half_size, header}
use Rattle.epoch_journal.specs.Halves.{HasRecords, IsPiece, IsResting, IsOneOf, IsSettled, IsEither}
use Rattle.epoch_journal.specs.State.{JournalState}
use Rattle.epoch_journal.specs.Telling.{no_rows, table_of, checkpoint_of, IsBegun, StandsOn, TellsOn}
use Rattle.epoch_journal.specs.Kept.{IsRunning, Keeps}
use Rattle.epoch_journal.specs.Laws.{EpochsGoOn}
use Rattle.std.proofs.Math.Seq.{take-append-add}
use Rattle.epoch_journal.proofs.Fronts.{rests_half}
use Rattle.epoch_journal.proofs.Switching.{settled_has}

pub on_ok : {T E P : Type 0} (r : Result T E) → P → OnOk r P
on_ok (Ok x) p = p
on_ok (Err e) p = tt

pub on_err : {T E P : Type 0} (r : Result T E) → P → OnErr r P
on_err (Ok x) p = tt
on_err (Err e) p = p

after_changes-push : (r : Record) (c : Change) (T : Values) (x : Cell) → after_changes (r ++ c ∷ []) T x ≡ put_in c.cell c.value (after_changes r T) x
after_changes-push [] c T x = refl
after_changes-push (d ∷ r) c T x = after_changes-push r c (put_in d.cell d.value T) x

-- a checkpoint leaves its rows
pub checkpoint_rows : (rows : List (Cell × ℤ)) (x : Cell) → after_changes (checkpoint_of rows) no_rows x ≡ row_of rows x
checkpoint_rows [] x = refl
checkpoint_rows (r ∷ rs) x =
    after_changes-push (checkpoint_of rs) (record { cell = r.0; value = Some r.1 }) no_rows x
    ∙ ap (λ (v : Option ℤ). cond (same_cell r.0 x) (Some r.1) v) (checkpoint_rows rs x)

changes_same : (r : Record) (T U : Values) → ((x : Cell) → T x ≡ U x) → (x : Cell) → after_changes r T x ≡ after_changes r U x
changes_same [] T U same x = same x
changes_same (c ∷ r) T U same x = changes_same r (put_in c.cell c.value T) (put_in c.cell c.value U) (λ y. ap (λ (v : Option ℤ). cond (same_cell c.cell y) c.value v) (same y)) x

pub records_same : (rs : List Record) (T U : Values) → ((x : Cell) → T x ≡ U x) → (x : Cell) → after_records rs T x ≡ after_records rs U x
records_same [] T U same x = same x
records_same (r ∷ rs) T U same x = records_same rs (after_changes r T) (after_changes r U) (changes_same r T U same) x

pub after_records-append : (ps qs : List Record) (T : Values) → after_records (ps ++ qs) T ≡ after_records qs (after_records ps T)
after_records-append [] qs T = refl
after_records-append (p ∷ ps) qs T = after_records-append ps qs (after_changes p T)

-- the records of an epoch over a checkpoint of what the past epochs left give the same table as all records
pub epoch_table : (start : Values) (past asked : List Record) (rows : List (Cell × ℤ)) → ((x : Cell) → row_of rows x ≡ after_records past start x) → (x : Cell)
    → table_of start (checkpoint_of rows ∷ asked) x ≡ after_records (past ++ asked) start x
epoch_table start past asked rows checkpoint x =
    records_same asked (after_changes (checkpoint_of rows) no_rows) (after_records past start) (λ y. checkpoint_rows rows y ∙ checkpoint y) x
    ∙ sym (ap (λ (T : Values). T x) (after_records-append past asked start))

pub stands_with : (l : Layout) (start : Values) (past asked all : List Record) (rows : List (Cell × ℤ)) (c : List ℕ) → ((x : Cell) → row_of rows x ≡ after_records past start x) → all ≡ past ++ asked
    → HasRecords l (checkpoint_of rows ∷ asked) c → StandsOn l start (after_records all start) c
stands_with l start past asked all rows c checkpoint split has = record {
  stands = record {
    list = checkpoint_of rows ∷ asked;
    has = has;
    table = λ x. epoch_table start past asked rows checkpoint x ∙ ap (λ (t : List Record). after_records t start x) (sym split);
  };
  begun = tt;
}

pub tells_with : (l : Layout) (start : Values) (all some : List Record) (least k : ℕ) (c : List ℕ) → take k all ≡ some → least ≤ k → k ≤ length all → StandsOn l start (after_records some start) c
    → TellsOn l start all least c
tells_with l start all some least k c is few many on = record {
  tells = record {
    k = k;
    no_fewer = few;
    no_more = many;
    stands = record { list = on.stands.list; has = on.stands.has; table = λ x. on.stands.table x ∙ ap (λ (t : List Record). after_records t start x) (sym is) };
  };
  begun = on.begun;
}

-- the first k of some records are the first k of more records
pub tells_more : (l : Layout) (start : Values) (all more : List Record) (least : ℕ) (file : List ℕ) → TellsOn l start all least file → TellsOn l start (all ++ more) least file
tells_more l start all more least file on =
    let t = on.tells in
    record {
      tells = record {
        k = t.k;
        no_fewer = t.no_fewer;
        no_more = omega (arith, t.no_more, length-append all more);
        stands = record { list = t.stands.list; has = t.stands.has; table = λ x. t.stands.table x ∙ ap (λ (rs : List Record). after_records rs start x) (sym (take-append-le t.k all more t.no_more)) };
      };
      begun = on.begun;
    }

-- a stopped journal keeps what it kept, even if there are more records
pub keeps_stopped : {D : Type 0} (seen : D → List ℕ) (may_leave : D → List ℕ → Type 0) (start : Values) (all more : List Record) (least : ℕ) (old new : JournalState D) → new.stopped ≡ true
    → new.disk ≡ old.disk → new.layout ≡ old.layout
    → Keeps seen may_leave start all least old → Keeps seen may_leave start (all ++ more) least new
keeps_stopped seen may_leave start all more least old new stopped disk layout keeps = record {
  few = omega (arith, keeps.few, length-append all more);
  each = λ c left. subst (λ (l : Layout). TellsOn l start (all ++ more) least c) (sym layout) (tells_more old.layout start all more least c (keeps.each c (subst (λ d. may_leave d c) disk left)));
  running = λ runs. absurd (cc (stopped, runs));
  all_safe = λ runs. absurd (cc (stopped, runs));
}

pub one_of_tells : (l : Layout) (start : Values) (past asked all : List Record) (rows : List (Cell × ℤ)) (more : List Record) (least : ℕ) (h : Half) (c : List ℕ)
    → ((x : Cell) → row_of rows x ≡ after_records past start x)
    → all ≡ past ++ asked → least ≤ length all → IsOneOf l h (checkpoint_of rows ∷ asked) more c → TellsOn l start (all ++ more) least c
one_of_tells l start past asked all rows more least h c checkpoint split few one = ⊎_elim
    (λ whole. tells_with l start (all ++ more) all least (length all) c (take_at all more (length all) refl) few (omega (arith, length-append all more))
    (stands_with l start past asked all rows c checkpoint split (settled_has l h (checkpoint_of rows ∷ asked) c (record { fronted = one.fronted; selects = one.selects; has = inl whole }))))
    (λ whole. tells_with l start (all ++ more) (all ++ more) least (length (all ++ more)) c (take_all (length (all ++ more)) (all ++ more) (omega arith)) (omega (arith, few, length-append all more))
    (omega arith)
    (stands_with l start past (asked ++ more) (all ++ more) rows c checkpoint (ap (λ (t : List Record). t ++ more) split ∙ append_assoc past asked more)
    (settled_has l h (checkpoint_of rows ∷ (asked ++ more)) c (record { fronted = one.fronted; selects = one.selects; has = inl whole }))))
    one.has

pub either_tells : (l : Layout) (start : Values) (past asked all : List Record) (old new : List (Cell × ℤ)) (least : ℕ) (h : Half) (c : List ℕ)
    → ((x : Cell) → row_of old x ≡ after_records past start x) → all ≡ past ++ asked
    → ((x : Cell) → row_of new x ≡ after_records all start x) → least ≤ length all → IsEither l h (checkpoint_of old ∷ asked) (checkpoint_of new) c → TellsOn l start all least c
either_tells l start past asked all old new least h c checkpoint split now few either = ⊎_elim
    (λ was. tells_with l start all all least (length all) c (take_all (length all) all (omega arith)) few (omega arith)
    (stands_with l start past asked all old c checkpoint split (settled_has l h (checkpoint_of old ∷ asked) c was)))
    (λ is. tells_with l start all all least (length all) c (take_all (length all) all (omega arith)) few (omega arith)
    (stands_with l start all [] all new c now (sym (append-nil all)) (settled_has l (other_half h) (checkpoint_of new ∷ []) c is)))
    either

module _ {D : Type 0} (seen : D → List ℕ) (may_leave : D → List ℕ → Type 0) (start : Values) where
  pub settled_of : (all : List Record) (j : JournalState D) → j.end < half_size j.layout.capacity → (running : IsRunning seen may_leave start all j)
      → IsSettled j.layout j.half (checkpoint_of running.rows ∷ running.asked) (seen j.disk)
  settled_of all j below running = record {
    fronted = running.resting.fronted;
    selects = running.resting.selects;
    has = inl (rests_half j.layout j.half (checkpoint_of running.rows ∷ running.asked) j.end (seen j.disk) running.resting below);
  }

  pub runs : (all : List Record) (least : ℕ) (j : JournalState D) → j.end < half_size j.layout.capacity → least ≡ length all → IsRunning seen may_leave start all j
      → Keeps seen may_leave start all least j
  runs all least j below is running = record {
    few = omega (arith, is);
    each = λ c left. subst (TellsOn j.layout start all least) (sym (running.durable c left))
        (tells_with j.layout start all all least (length all) (seen j.disk) (take_all (length all) all (omega arith)) (omega (arith, is)) (omega arith)
        (stands_with j.layout start running.past running.asked all running.rows (seen j.disk) running.checkpoint running.split
        (settled_has j.layout j.half (checkpoint_of running.rows ∷ running.asked) (seen j.disk) (settled_of all j below running))));
    running = λ on. running;
    all_safe = λ on. is;
  }

-- an epoch that has just begun
pub begun : {D : Type 0} (seen : D → List ℕ) (may_leave : D → List ℕ → Type 0) (rows : List (Cell × ℤ)) (j : JournalState D) → j.end < half_size j.layout.capacity
    → IsResting j.layout j.half (checkpoint_of rows ∷ []) j.end (seen j.disk) → Only (seen j.disk) (may_leave j.disk) → Keeps seen may_leave (row_of rows) [] 0 j
begun seen may_leave rows j below resting durable =
    runs seen may_leave (row_of rows) [] 0 j below refl (record { past = []; asked = []; rows = rows; split = refl; checkpoint = λ x. refl; resting = resting; durable = durable })

-- with a checkpoint, the starting table does not matter
pub same_list : (first start : Values) (list : List Record) (x : Cell) → IsBegun list → table_of first list x ≡ table_of start list x
same_list first start [] x is = absurd is
same_list first start (r ∷ rs) x is = refl

pub epochs_go_on : EpochsGoOn
epochs_go_on l first start past all least file left on =
    let t = on.tells in
    record {
      tells = record {
        k = length past + t.k;
        no_fewer = omega (arith, t.no_fewer);
        no_more = omega (arith, t.no_more, length-append past all);
        stands = record {
          list = t.stands.list;
          has = t.stands.has;
          table = λ x. same_list first start t.stands.list x on.begun
              ∙ t.stands.table x
              ∙ records_same (take t.k all) start (after_records past first) left x
              ∙ sym (ap (λ (T : Values). T x) (after_records-append past (take t.k all) first))
              ∙ sym (ap (λ (m : List Record). after_records m first x) (take-append-add past all t.k));
        };
      };
      begun = on.begun;
    }

pub same_piece : (capacity : ℕ) (a b : List ℕ) (r : Record) (x y : List ℕ) → a ≡ b → y ≡ x → IsPiece (layout capacity a) r x → IsPiece (layout capacity b) r y
same_piece capacity a b r x y same is piece = record { fits = piece.fits; is = is ∙ piece.is ∙ ap (λ (t : List ℕ). header t ++ (1 ∷ (body r ++ 0 ∷ []))) same }

pub if_ok : {T E : Type 0} (r : Result T E) (P Q R : T → Type 0) → ((x : T) → P x → Q x → R x) → IfOk r P → IfOk r Q → IfOk r R
if_ok (Ok x) P Q R f p q = f x p q
if_ok (Err e) P Q R f p q = tt

pub if_ok_one : {T E : Type 0} (r : Result T E) (P R : T → Type 0) → ((x : T) → P x → R x) → IfOk r P → IfOk r R
if_ok_one (Ok x) P R f p = f x p
if_ok_one (Err e) P R f p = tt

pub if_err : {T E : Type 0} (r : Result T E) (P R : E → Type 0) → ((x : E) → P x → R x) → IfErr r P → IfErr r R
if_err (Ok x) P R f p = tt
if_err (Err e) P R f p = f e p
