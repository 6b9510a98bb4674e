-- The value that a record leaves in a cell.
use Rattle.std.proofs.Common.{◌≡◌, ℕ, Bool, true, false, cond, not, List, [], ◌∷◌, ◌++◌, Option, Some, None, ℤ, refl, sym, ap, ◌∙◌, unwrap_or, filter}
use Rattle.std.specs.Option.{option_or}
use Rattle.teb_rules.specs.declared.names.Cell.{Cell}
use Rattle.teb_rules.specs.names.Cells.{same_cell}
use Rattle.teb_rules.specs.declared.history.Event.{Event}
use Rattle.teb_rules.specs.declared.history.Event.TheVariants.{Began, Got, Put, Ready, Done, Gone, Told}
use Rattle.teb_rules.specs.history.Accesses.{last_put}
use Rattle.teb_rules.specs.history.OwnEvents.{own_events, put_in as puts}
use Rattle.teb_rules.proofs.lemmas.history.OwnWalks.{newest_in, last_put_own}
use Rattle.teb_rules.specs.Replay.{Values, put_in}
use Rattle.teb_rules.specs.Setup.{Setup}
use Rattle.teb_rules.proofs.lemmas.names.SameCells.{same_cell-true, same_laws}
use Rattle.record_journal.specs.Format.{Record}
use Rattle.record_journal.specs.Journal.{after_changes, after_records}
use Rattle.commit_laws.specs.Records.{last_puts, is_newest, record_of}

-- the last change of a cell in a record
abbrev pub lookup : Record → Cell → Option (Option ℤ)
lookup [] x = None
lookup (c ∷ cs) x = option_or (lookup cs x) (cond (same_cell c.cell x) (Some c.value) None)

pub changes_at : (r : Record) (T : Values) (x : Cell) → after_changes r T x ≡ unwrap_or (lookup r x) (T x)
changes_at [] T x = refl
changes_at (c ∷ cs) T x = changes_at cs (put_in c.cell c.value T) x ∙ go (lookup cs x) (same_cell c.cell x)
  where
    go : (o : Option (Option ℤ)) (b : Bool) → unwrap_or o (cond b c.value (T x)) ≡ unwrap_or (option_or o (cond b (Some c.value) None)) (T x)
    go (Some v) b = refl
    go None true = refl
    go None false = refl

-- the value in a cell afterwards depends only on the table's value in that cell
pub changes_alike : (r : Record) (T U : Values) (x : Cell) → T x ≡ U x → after_changes r T x ≡ after_changes r U x
changes_alike r T U x same = changes_at r T x ∙ ap (λ (v : Option ℤ). unwrap_or (lookup r x) v) same ∙ sym (changes_at r U x)

-- a lookup among the changes of selected cells
pub lookup_filter : (p : Cell → Bool) (cs : Record) (x : Cell) → lookup (filter (λ c. p c.cell) cs) x ≡ cond (p x) (lookup cs x) None
lookup_filter p [] x = go (p x)
  where
    go : (b : Bool) → lookup [] x ≡ cond b (lookup [] x) None
    go true = refl
    go false = refl
lookup_filter p (c ∷ cs) x = go (p c.cell) refl (same_cell c.cell x) refl (lookup_filter p cs x)
  where
    none_or : (o : Option (Option ℤ)) → option_or o None ≡ o
    none_or None = refl
    none_or (Some v) = refl

    go : (b : Bool) → p c.cell ≡ b → (s : Bool) → same_cell c.cell x ≡ s → lookup (filter (λ c. p c.cell) cs) x ≡ cond (p x) (lookup cs x) None
        → lookup (cond b (c ∷ filter (λ c. p c.cell) cs) (filter (λ c. p c.cell) cs)) x ≡ cond (p x) (option_or (lookup cs x) (cond s (Some c.value) None)) None
    go true e true same ih =
        let q : p x ≡ true = ap p (sym (same_cell-true c.cell x same)) ∙ e in
        ap (λ (o : Option (Option ℤ)). option_or o (cond (same_cell c.cell x) (Some c.value) None)) (ih ∙ ap (λ (b : Bool). cond b (lookup cs x) None) q)
        ∙ ap (λ (s : Bool). option_or (lookup cs x) (cond s (Some c.value) None)) same
        ∙ sym (ap (λ (b : Bool). cond b (option_or (lookup cs x) (Some c.value)) None) q)
    go true e false other ih =
        ap (λ (s : Bool). option_or (lookup (filter (λ c. p c.cell) cs) x) (cond s (Some c.value) None)) other
        ∙ none_or (lookup (filter (λ c. p c.cell) cs) x)
        ∙ ih
        ∙ ap (λ (o : Option (Option ℤ)). cond (p x) o None) (sym (none_or (lookup cs x)))
    go false e true same ih =
        let q : p x ≡ false = ap p (sym (same_cell-true c.cell x same)) ∙ e in
        ih ∙ ap (λ (b : Bool). cond b (lookup cs x) None) q ∙ sym (ap (λ (b : Bool). cond b (option_or (lookup cs x) (Some c.value)) None) q)
    go false e false other ih = ih ∙ ap (λ (o : Option (Option ℤ)). cond (p x) o None) (sym (none_or (lookup cs x)))

pub lookup_puts : (es : List Event) (x : Cell) → lookup (last_puts es) x ≡ newest_in (puts x) es
unfolding last_puts
lookup_puts [] x = refl
lookup_puts (Put t y v ∷ es) x =
    ap (λ (o : Option (Option ℤ)). option_or o (cond (same_cell y x) (Some v) None)) (lookup_filter (λ z. not (same_cell z y)) (last_puts es) x)
    ∙ ap (λ (s : Bool). option_or (cond (not s) (lookup (last_puts es) x) None) (cond (same_cell y x) (Some v) None)) (same_laws.symm x y)
    ∙ go (same_cell y x) (lookup_puts es x)
  where
    go : (s : Bool) → lookup (last_puts es) x ≡ newest_in (puts x) es → option_or (cond (not s) (lookup (last_puts es) x) None) (cond s (Some v) None) ≡ option_or (cond s (Some v) None)
        (newest_in (puts x) es)
    go true ih = refl
    go false ih = none_or (lookup (last_puts es) x) ∙ ih
      where
        none_or : (o : Option (Option ℤ)) → option_or o None ≡ o
        none_or None = refl
        none_or (Some v) = refl
lookup_puts (Began t s k i ∷ es) x = lookup_puts es x
lookup_puts (Got t y w v ∷ es) x = lookup_puts es x
lookup_puts (Ready t ∷ es) x = lookup_puts es x
lookup_puts (Done t ∷ es) x = lookup_puts es x
lookup_puts (Gone t c ∷ es) x = lookup_puts es x
lookup_puts (Told t ∷ es) x = lookup_puts es x

-- the record of t leaves t's last put, if no committed version follows it
pub record_at : (S : Setup) (H : List Event) (t : ℕ) (T : Values) (x : Cell) → after_changes (record_of S H t) T x ≡ unwrap_or (cond (is_newest S H t x) (last_put H t x) None) (T x)
record_at S H t T x =
    changes_at (record_of S H t) T x
    ∙ ap (λ (o : Option (Option ℤ)). unwrap_or o (T x)) (lookup_filter (is_newest S H t) (last_puts (own_events H t)) x ∙ ap (λ (o : Option (Option ℤ)). cond (is_newest S H t x) o None)
    (lookup_puts (own_events H t) x ∙ last_put_own H t x))

-- one more record
pub records_push : (rs : List Record) (r : Record) (T : Values) → after_records (rs ++ r ∷ []) T ≡ after_changes r (after_records rs T)
records_push [] r T = refl
records_push (q ∷ rs) r T = records_push rs r (after_changes q T)
