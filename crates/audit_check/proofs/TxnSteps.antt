-- The states of the transactions, line by line.
use Rattle.std.proofs.Common.{◌≡◌, ℕ, ◌+◌, ◌==◌, nat_lt, nat_le, Bool, true, false, not, ◌&&◌, ◌||◌, List, [], ◌∷◌, refl, ap, sym, ◌∙◌, arith}
use Rattle.std.proofs.lemmas.Bool.{not-false}
use Rattle.std.proofs.lemmas.Bool.Decides.{nat_tests}
use Rattle.audit_check.specs.Items.{Item}
use Rattle.audit_check.specs.Items.Item.{Start, Began, Got, Put, Ready, Done, Gone, Told, Order, Row, End}
use Rattle.audit_check.specs.Faults.{wrong_txn}
use Rattle.audit_check.specs.Standings.{begun, committed, aborted, unfinished, begun_count, is_began, is_done, is_gone}
use Rattle.audit_check.specs.Keeps.{KeepsStandings}
use Rattle.audit_check.specs.Marks.{is_marked}
use Rattle.audit_check.specs.Views.{line_view}
use Rattle.audit_check.specs.declared.line.Line.{Line}
use Rattle.audit_check.specs.declared.line.Line.TheVariants as line

double : (b : Bool) → b ≡ not (not b)
double true = refl
double false = refl

-- lines that begin or end a transaction
abbrev pub changes_standing : Item → Bool
changes_standing (Began t) = true
changes_standing (Done t) = true
changes_standing (Gone t) = true
changes_standing _ = false

pub same_line : (l : Line) → ((t : ℕ) → l ≡ line.Began t → ⊥) → ((t : ℕ) → l ≡ line.Done t → ⊥) → ((t : ℕ) → l ≡ line.Gone t → ⊥) → changes_standing (line_view l) ≡ false
same_line (line.Began t) b d g = absurd (b t refl)
same_line (line.Done t) b d g = absurd (d t refl)
same_line (line.Gone t) b d g = absurd (g t refl)
same_line (line.Start p v) b d g = refl
same_line (line.Got t p u v) b d g = refl
same_line (line.Put t p v) b d g = refl
same_line (line.Ready t) b d g = refl
same_line (line.Told t) b d g = refl
same_line (line.Order ts) b d g = refl
same_line (line.Row p v) b d g = refl
same_line line.End b d g = refl

-- no transaction has begun
none_stand : KeepsStandings 0 [] [] []
unfolding begun committed aborted begun_count
none_stand = record { count_is = refl; begun_are = λ t. grind (arith, nat_tests); done_are = λ t. refl; gone_are = λ t. refl }

pub stands_none : (n : ℕ) (done gone : List Bool) → n ≡ 0 → done ≡ [] → gone ≡ [] → KeepsStandings n done gone []
stands_none n done gone e f g = rw (e, f, g) none_stand

module _ (count : ℕ) (done gone : List Bool) (past : List Item) (kept : KeepsStandings count done gone past) where
  pub is_next : (t : ℕ) → (t == count + 1) ≡ not (wrong_txn past (Began t))
  is_next t = ap (λ n. t == n + 1) kept.count_is ∙ double (t == begun_count past + 1)

  pub told_right : (t : ℕ) → is_marked gone t ≡ not (wrong_txn past (Told t))
  told_right t = kept.gone_are t ∙ double (aborted past t)

  pub open_right : (t : ℕ) → unfinished past t ≡ not (not (unfinished past t))
  open_right t = double (unfinished past t)

  pub is_open : (t : ℕ) (b d g : Bool) → b ≡ (nat_lt 0 t && nat_le t count) → d ≡ is_marked done t → g ≡ is_marked gone t → (b && not d && not g) ≡ unfinished past t
  unfolding unfinished
  is_open t b d g hb hd hg = rw (hb ∙ sym (kept.begun_are t), hd ∙ kept.done_are t, hg ∙ kept.gone_are t)

  -- a line that neither begins nor ends a transaction
  other : (i : Item) → ((t : ℕ) → is_began t i ≡ false) → ((t : ℕ) → is_done t i ≡ false) → ((t : ℕ) → is_gone t i ≡ false) → begun_count (i ∷ past) ≡ begun_count past
      → KeepsStandings count done gone (i ∷ past)
  unfolding begun committed aborted
  other i b d g n = record {
    count_is = kept.count_is ∙ sym n;
    begun_are = λ t. rw (b t) (kept.begun_are t);
    done_are = λ t. rw (d t) (kept.done_are t);
    gone_are = λ t. rw (g t) (kept.gone_are t);
  }

  begun_next : (t u : ℕ) → t ≡ count + 1 → (t == u || (nat_lt 0 u && nat_le u count)) ≡ (nat_lt 0 u && nat_le u t)
  begun_next t u next = grind (arith, nat_tests)

  pub begun_stands : (t : ℕ) → wrong_txn past (Began t) ≡ false → KeepsStandings t done gone (Began t ∷ past)
  unfolding begun committed aborted begun_count
  begun_stands t right =
      let next : (t == begun_count past + 1) ≡ true = not-false (t == begun_count past + 1) right in
      let at : t ≡ begun_count past + 1 = grind (arith, nat_tests, next) in
      record {
        count_is = omega (arith, at);
        begun_are = λ u. rw (kept.begun_are u) (begun_next t u (omega (arith, at, kept.count_is)));
        done_are = kept.done_are;
        gone_are = kept.gone_are;
      }

  pub done_stands : (t : ℕ) (done' : List Bool) → ((n : ℕ) → is_marked done' n ≡ (t == n || is_marked done n)) → KeepsStandings count done' gone (Done t ∷ past)
  unfolding begun committed aborted begun_count
  done_stands t done' marks = record {
    count_is = kept.count_is;
    begun_are = kept.begun_are;
    done_are = λ u. marks u ∙ ap (λ b. t == u || b) (kept.done_are u);
    gone_are = kept.gone_are;
  }

  pub gone_stands : (t : ℕ) (gone' : List Bool) → ((n : ℕ) → is_marked gone' n ≡ (t == n || is_marked gone n)) → KeepsStandings count done gone' (Gone t ∷ past)
  unfolding begun committed aborted begun_count
  gone_stands t gone' marks = record {
    count_is = kept.count_is;
    begun_are = kept.begun_are;
    done_are = kept.done_are;
    gone_are = λ u. marks u ∙ ap (λ b. t == u || b) (kept.gone_are u);
  }

  pub same_stands : (i : Item) → changes_standing i ≡ false → KeepsStandings count done gone (i ∷ past)
  unfolding begun_count
  same_stands (Start x v) h = other (Start x v) (λ t. refl) (λ t. refl) (λ t. refl) refl
  same_stands (Got t x u v) h = other (Got t x u v) (λ t. refl) (λ t. refl) (λ t. refl) refl
  same_stands (Put t x v) h = other (Put t x v) (λ t. refl) (λ t. refl) (λ t. refl) refl
  same_stands (Ready t) h = other (Ready t) (λ t. refl) (λ t. refl) (λ t. refl) refl
  same_stands (Told t) h = other (Told t) (λ t. refl) (λ t. refl) (λ t. refl) refl
  same_stands (Order ts) h = other (Order ts) (λ t. refl) (λ t. refl) (λ t. refl) refl
  same_stands (Row x v) h = other (Row x v) (λ t. refl) (λ t. refl) (λ t. refl) refl
  same_stands End h = other End (λ t. refl) (λ t. refl) (λ t. refl) refl
  same_stands (Began t) h = absurd (cc)
  same_stands (Done t) h = absurd (cc)
  same_stands (Gone t) h = absurd (cc)
