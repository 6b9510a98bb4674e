-- Commits that wait for the disk together.
use Rattle.std.proofs.Common.{◌≡◌, ◌+◌, ◌<◌, ◌≤◌, ℕ, true, false, List, [], ◌∷◌, ◌++◌, length, Option, Some, None, Result, Ok, Err, sym, ◌∙◌, ap, subst, arith, append_assoc, length-append}
use Rattle.std.specs.Prelude.{OnOk, OnErr}
use Rattle.std.proofs.lemmas.List.{append-nil}
use Rattle.teb_rules.specs.names.Rows.{row_of}
use Rattle.teb_rules.specs.Setup.{Store}
use Rattle.teb_rules.specs.Replay.{Values}
use Rattle.crash_disk.specs.Disk.{LeavesOnly}
use Rattle.crash_disk.specs.Spare.{Spare}
use Rattle.crash_disk.specs.declared.spare.Memory.{Memory}
use Rattle.record_journal.specs.Format.{Record, body as body_of}
use Rattle.record_journal.specs.Journal.{IsBody, after_records}
use Rattle.record_journal.proofs.Moments.{started}
use Rattle.record_journal.proofs.Spelled.{length-body, length-records-push}
use Rattle.epoch_journal.specs.Layout.{Layout, half_size}
use Rattle.epoch_journal.specs.State.{JournalState}
use Rattle.epoch_journal.specs.Telling.{TellsOn}
use Rattle.epoch_journal.specs.Kept.{Keeps}
use Rattle.epoch_journal.specs.Memory.{IsForRecord}
use Rattle.epoch_journal.proofs.Telling.{tells_more}
use Rattle.epoch_store.specs.Gathering.{Gathers, size_of}

pub size-push : (rs : List Record) (r : Record) (body : List ℕ) → IsBody r body → size_of (rs ++ r ∷ []) ≡ size_of rs + length body
size-push rs r body is_body = omega (arith, length-records-push rs r, length-body r, ap length is_body.is, length-append (body_of r) (0 ∷ []))

module _ {D : Type 0} (seen : D → List ℕ) (may_leave : D → List ℕ → Type 0) (spare_with : D → Memory → Spare) where
  pub each_tells : (start : Values) (all waiting : List Record) (memory : Option Memory) (j : JournalState D) → Gathers seen may_leave spare_with start all waiting memory j
      → (file : List ℕ) → may_leave j.disk file → TellsOn j.layout start all j.acknowledged file
  each_tells start all waiting memory j gathers file left =
      subst (λ (rs : List Record). TellsOn j.layout start rs j.acknowledged file) (sym gathers.split)
      (tells_more j.layout start gathers.kept waiting j.acknowledged file (gathers.keeps.each file left))

  pub none_waits : (start : Values) (all : List Record) (j : JournalState D) → j.stopped ≡ false → j.end < half_size j.layout.capacity → Keeps seen may_leave start all j.acknowledged j
      → (none : List Record) → none ≡ []
      → Gathers seen may_leave spare_with start all none None j
  none_waits start all j running below keeps none is = record {
    kept = all;
    split = sym (append-nil all) ∙ ap (λ (rs : List Record). all ++ rs) (sym is);
    keeps = keeps;
    running = running;
    room = omega (arith, below, ap size_of is);
    reserved = is;
  }

  pub gathers_same : (X Z : Store) (rs qs ws vs : List Record) (memory : Option Memory) (j : JournalState D) → Z ≡ X → qs ≡ rs → vs ≡ ws
      → Gathers seen may_leave spare_with (row_of X.rows) rs ws memory j
      → Gathers seen may_leave spare_with (row_of Z.rows) qs vs memory j
  gathers_same X Z rs qs ws vs memory j store same wait gathers =
      subst (λ (x : Store × List Record × List Record). Gathers seen may_leave spare_with (row_of x.0.rows) x.1 x.2 memory j) (λ i. (sym store i, sym same i, sym wait i)) gathers

  pub gathers_more : (X Z : Store) (rs qs ws vs : List Record) (r : Record) (body : List ℕ) (old : Option Memory) (memory : Memory) (j : JournalState D) → Z ≡ X → qs ≡ rs ++ r ∷ [] → vs ≡ ws ++ r ∷ []
      → IsBody r body
      → j.end + size_of ws + (length body + 1) ≤ half_size j.layout.capacity → IsForRecord spare_with (size_of ws + length body) memory j
      → Gathers seen may_leave spare_with (row_of X.rows) rs ws old j
      → Gathers seen may_leave spare_with (row_of Z.rows) qs vs (Some memory) j
  gathers_more X Z rs qs ws vs r body old memory j store same wait is_body room enough gathers =
      let size : size_of vs ≡ size_of ws + length body = ap size_of wait ∙ size-push ws r body is_body in
      record {
        kept = gathers.kept;
        split = same ∙ ap (λ (l : List Record). l ++ r ∷ []) gathers.split ∙ append_assoc gathers.kept ws (r ∷ []) ∙ ap (λ (l : List Record). gathers.kept ++ l) (sym wait);
        keeps = subst (λ (x : Store). Keeps seen may_leave (row_of x.rows) gathers.kept j.acknowledged j) (sym store) gathers.keeps;
        running = gathers.running;
        room = omega (arith, room, size);
        reserved = (omega (arith, ap length wait, length-append ws (r ∷ [])), subst (λ (n : ℕ). IsForRecord spare_with n memory j) (sym size) enough);
      }

  pub none_gathered : (start : Values) (all waiting : List Record) (memory : Option Memory) (j : JournalState D) → memory ≡ None → Gathers seen may_leave spare_with start all waiting memory j
      → (waiting ≡ []) × Keeps seen may_leave start all j.acknowledged j
  none_gathered start all waiting None j is gathers = (
    gathers.reserved,
    subst (λ (rs : List Record). Keeps seen may_leave start rs j.acknowledged j) (sym (gathers.split ∙ ap (λ (rs : List Record). gathers.kept ++ rs) gathers.reserved ∙ append-nil gathers.kept))
        gathers.keeps,
  )
  none_gathered start all waiting (Some memory) j is gathers = absurd (cc is)

  pub some_gathered : (start : Values) (all waiting : List Record) (found : Option Memory) (memory : Memory) (j : JournalState D) → found ≡ Some memory
      → Gathers seen may_leave spare_with start all waiting found j
      → (0 < length waiting) × IsForRecord spare_with (size_of waiting) memory j
  some_gathered start all waiting None memory j is gathers = absurd (cc is)
  some_gathered start all waiting (Some m) memory j is gathers =
      let same : m ≡ memory = cc is in
      (gathers.reserved.0, subst (λ (n : Memory). IsForRecord spare_with (size_of waiting) n j) same gathers.reserved.1)

  -- a group was written, or the disk failed while it was written
  pub keeps_group : {T E : Type 0} (r : Result T E) (start : Values) (all : List Record) (end n k : ℕ) (j : JournalState D) → OnOk r (Keeps seen may_leave start all (n + k) j)
      → OnErr r (Keeps seen may_leave start all n j)
      → OnOk r ((j.stopped ≡ false) × (j.acknowledged ≡ n + k)) → OnErr r ((j.stopped ≡ true) × (j.end ≡ end) × (j.acknowledged ≡ n)) → Keeps seen may_leave start all j.acknowledged j
  keeps_group (Ok x) start all end n k j kept not_added more same = subst (λ (m : ℕ). Keeps seen may_leave start all m j) (sym more.1) kept
  keeps_group (Err e) start all end n k j kept not_added more same = subst (λ (m : ℕ). Keeps seen may_leave start all m j) (sym same.2) not_added

-- nothing is done
module _ {D : Type 0} (seen : D → List ℕ) (may_leave : D → List ℕ → Type 0) (spare_with : D → Memory → Spare) (moment : D → ℕ) (left_since : D → ℕ → List ℕ → Type 0) where
  pub waits_still : (start : Values) (all waiting : List Record) (memory : Option Memory) (j : JournalState D) → ((c : List ℕ) → left_since j.disk (moment j.disk) c → may_leave j.disk c)
      → Gathers seen may_leave spare_with start all waiting memory j
      → LeavesOnly moment left_since j.disk j.disk (TellsOn j.layout start all j.acknowledged)
  waits_still start all waiting memory j only_now gathers =
      started moment left_since j.disk (TellsOn j.layout start all j.acknowledged) (λ c left. each_tells seen may_leave spare_with start all waiting memory j gathers c (only_now c left))
