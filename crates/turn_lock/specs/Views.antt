-- The views of seats, and what each step makes of them.
use Rattle.std.specs.Prelude.{ℕ, zero, suc, ◌+◌, ◌-◌, leb, max, true, false, if◌then◌else◌, List, [], ◌∷◌, ◌++◌, Some, None, slice_set, length, replicate}
use Rattle.turn_lock.specs.declared.view.View.{View}
use Rattle.turn_lock.specs.declared.view.Heard.{Heard}
use Rattle.turn_lock.specs.Counts.{count_from, without}

-- a word is noted unless it is 0
abbrev pub noted : ℕ → ℕ → List ℕ → List ℕ
noted i zero notes = notes
noted i (suc n) notes = slice_set notes i (suc n)

-- the greater of the two at each place
abbrev pub merged : List ℕ → List ℕ → List ℕ
merged [] ns = ns
merged (m ∷ ms) [] = m ∷ ms
merged (m ∷ ms) (n ∷ ns) = max m n ∷ merged ms ns

abbrev pub longer : {A : Type 0} → List A → List A → List A
longer xs ys = if leb (length ys) (length xs) then xs else ys

module _ {E B : Type 0} where
  -- the first seat of a turn has all owners and all 2 ^ 45 turns
  abbrev pub first_view : B → ℕ → ℕ → View E B
  first_view base notes owners = record {
    base = Some base;
    owners = count_from 1 owners;
    turns = 35184372088832;
    ticket = None;
    inside = false;
    seen = [];
    notes = replicate notes 0;
    looked = [];
    heard = [];
  }

  -- what is left of a seat that was joined into another
  abbrev pub spent_view : View E B
  spent_view = record { base = None; owners = []; turns = 0; ticket = None; inside = false; seen = []; notes = []; looked = []; heard = [] }

  -- draw a ticket
  abbrev pub drawn : ℕ → View E B → View E B
  drawn ticket v = record v { turns = v.turns - 1; ticket = Some ticket }

  -- find the ticket served
  abbrev pub arrived : List E → List ℕ → View E B → View E B
  arrived entries notes v = record v { inside = true; seen = entries; notes = notes; heard = [] }

  -- move serving on
  abbrev pub departed : List E → View E B → View E B
  departed entries v = record v { ticket = None; inside = false; seen = entries; heard = [] }

  -- publish a note
  abbrev pub published : ℕ → ℕ → View E B → View E B
  published i word v = record v { notes = slice_set v.notes i word }

  -- look at a note
  abbrev pub looked_at : ℕ → ℕ → View E B → View E B
  looked_at i word v = record v { notes = noted i word v.notes; looked = (i, word) ∷ v.looked }

  -- split: what goes to the new seat, and what stays
  abbrev pub given : ℕ → ℕ → View E B → View E B
  given owner turns v = record v { owners = owner ∷ []; turns = turns; heard = [] }

  abbrev pub remaining : ℕ → ℕ → View E B → View E B
  remaining owner turns v = record v { owners = without owner v.owners; turns = v.turns - turns; heard = [] }

  -- join: the seat knows what both knew, and remembers what each of them knew by itself
  abbrev pub heard_of : View E B → Heard E B
  heard_of v = record { base = v.base; owners = v.owners; seen = v.seen; notes = v.notes }

  abbrev pub both_views : View E B → View E B → View E B
  both_views v w = record v {
    owners = v.owners ++ w.owners;
    turns = v.turns + w.turns;
    seen = longer v.seen w.seen;
    notes = merged v.notes w.notes;
    heard = heard_of w ∷ heard_of v ∷ (v.heard ++ w.heard);
  }
