-- Reading a journal from its front, record by record, and a record, change by change.
use Rattle.std.proofs.Common.{◌≡◌, ◌≢◌, ℕ, zero, suc, ◌+◌, ◌<◌, ◌≤◌, ltb, List, [], ◌∷◌, ◌++◌, length, get_or, take}
use Rattle.std.proofs.Common.{drop, Option, Some, None, refl, sym, ◌∙◌, ap, arith, append_assoc, take-append-drop, Vec}
use Rattle.std.proofs.lemmas.List.{append-nil, length-take-le, map_push}
use Rattle.std.proofs.lemmas.Bool.{cond-true, cond-false, lt-ltb, le-ltb}
use Rattle.std.specs.declared.alloc.Global.{Global}
use Rattle.record_journal.specs.declared.change.Change.{Change}
use Rattle.record_journal.specs.Format.{Record, change_of, follow, changes_of, record_of, Reading, Whole, Damaged, push, size, after_gate, reading}
use Rattle.record_journal.specs.Views.{record_lists}
use Rattle.record_journal.proofs.Spelled.{push_all, pushed, skips, reading_open, reading_closed}

-- what was read before, and what remains to be read
abbrev pub prefixed : Record → Option Record → Option Record
prefixed front None = None
prefixed front (Some r) = Some (front ++ r)

pub short : (front : Record) (n : ℕ) (rest : List ℕ) (total : Option Record) → 0 < n → length rest < 14 → prefixed front (changes_of n rest) ≡ total → total ≡ None
unfolding changes_of
short front zero rest total some below so_far = absurd (omega arith)
short front (suc n) rest total some below so_far = sym so_far
    ∙ ap (prefixed front) (cond-true (ltb (length rest) 14) None (follow (change_of (take 14 rest)) (changes_of n (drop 14 rest))) (lt-ltb (length rest) 14 below))

one : (n : ℕ) (rest : List ℕ) → 14 ≤ length rest → changes_of (suc n) rest ≡ follow (change_of (take 14 rest)) (changes_of n (drop 14 rest))
unfolding changes_of
one n rest long = cond-false (ltb (length rest) 14) None (follow (change_of (take 14 rest)) (changes_of n (drop 14 rest))) (le-ltb (length rest) 14 long)

pub bad : (front : Record) (n : ℕ) (rest : List ℕ) (total : Option Record) → 0 < n → 14 ≤ length rest → change_of (take 14 rest) ≡ None → prefixed front (changes_of n rest) ≡ total → total ≡ None
bad front zero rest total some long none so_far = absurd (omega arith)
bad front (suc n) rest total some long none so_far = sym so_far ∙ ap (prefixed front) (one n rest long ∙ ap (λ (c : Option Change). follow c (changes_of n (drop 14 rest))) none)

regroup : (front : Record) (c : Change) (others : Option Record) → prefixed front (follow (Some c) others) ≡ prefixed (front ++ c ∷ []) others
regroup front c None = refl
regroup front c (Some r) = ap (λ (l : Record). Some l) (sym (append_assoc front (c ∷ []) r))

pub next : (front : Record) (n m : ℕ) (rest : List ℕ) (c : Change) (total : Option Record) → n ≡ suc m → 14 ≤ length rest → change_of (take 14 rest) ≡ Some c
    → prefixed front (changes_of n rest) ≡ total
    → prefixed (front ++ c ∷ []) (changes_of m (drop 14 rest)) ≡ total
next front n m rest c total is long found so_far =
    sym (regroup front c (changes_of m (drop 14 rest)))
    ∙ ap (prefixed front) (sym (ap (λ (k : ℕ). changes_of k rest) is ∙ one m rest long ∙ ap (λ (o : Option Change). follow o (changes_of m (drop 14 rest))) found))
    ∙ so_far

-- ---- records

push_all-push : (rs : List Record) (r : Record) (x : Reading) → push_all (rs ++ r ∷ []) x ≡ push_all rs (push r x)
push_all-push [] r x = refl
push_all-push (q ∷ rs) r x = ap (push q) (push_all-push rs r x)

pub reads_on : (rs : List Record) (r : Record) (n at : ℕ) (behind : List ℕ) (total : Reading) → n ≡ size r → record_of behind ≡ Some r → n ≤ length behind
    → push_all rs (reading 0 at (1 ∷ behind)) ≡ total
    → push_all (rs ++ r ∷ []) (reading 0 (at + (1 + n)) (drop n behind)) ≡ total
reads_on rs r n at behind total is found long so_far =
    let over : reading (size r) (suc at) behind ≡ reading 0 (suc at + n) (drop n behind) =
    ap (λ (k : ℕ). reading k (suc at) behind) (sym is) ∙ ap (reading n (suc at)) (sym (take-append-drop n behind)) ∙ skips n (suc at) (take n behind) (drop n behind)
    (sym (length-take-le n behind long)) in
    push_all-push rs r (reading 0 (at + (1 + n)) (drop n behind))
    ∙ ap (λ (x : Reading). push_all rs (push r x)) (ap (λ (k : ℕ). reading 0 k (drop n behind)) (omega arith) ∙ sym over)
    ∙ ap (push_all rs) (sym (reading_open at behind r found))
    ∙ so_far

push_all-damaged : (rs : List Record) (at : ℕ) → push_all rs (Damaged at) ≡ Damaged at
push_all-damaged [] at = refl
push_all-damaged (r ∷ rs) at = ap (push r) (push_all-damaged rs at)

reading_bad : (at : ℕ) (behind : List ℕ) → record_of behind ≡ None → reading 0 at (1 ∷ behind) ≡ Damaged at
unfolding reading
reading_bad at behind none = ap (λ (o : Option Record). after_gate at o (λ n. reading n (suc at) behind)) none

pub damaged : (rs : List Record) (at : ℕ) (behind : List ℕ) (total : Reading) → record_of behind ≡ None → push_all rs (reading 0 at (1 ∷ behind)) ≡ total → total ≡ Damaged at
damaged rs at behind total none so_far = sym so_far ∙ ap (push_all rs) (reading_bad at behind none) ∙ push_all-damaged rs at

pub reading_nil : (at : ℕ) → reading 0 at [] ≡ Whole []
unfolding reading
reading_nil at = refl

pub whole : (rs : List Record) (x total : Reading) → x ≡ Whole [] → push_all rs x ≡ total → total ≡ Whole rs
whole rs x total is so_far = sym so_far ∙ ap (push_all rs) is ∙ pushed rs [] ∙ ap Whole (append-nil rs)

pub record_lists-push : (vs : List (Vec Change Global)) (v : Vec Change Global) → record_lists (vs ++ v ∷ []) ≡ record_lists vs ++ v.items ∷ []
record_lists-push vs v = map_push _ vs v

pub closed_empty : (bytes : List ℕ) (at : ℕ) → length bytes ≡ 0 → reading 0 at bytes ≡ Whole []
closed_empty [] at none = reading_nil at
closed_empty (b ∷ bytes) at none = absurd (omega arith)

pub closed_gate : (bytes front : List ℕ) (at : ℕ) → 1 ≤ length bytes → front ≡ take 1 bytes → get_or front 0 0 ≢ 1 → reading 0 at bytes ≡ Whole []
closed_gate [] front at some is shut = absurd (omega arith)
closed_gate (b ∷ bytes) front at some is shut = reading_closed at b bytes (λ one. shut (ap (λ (l : List ℕ). get_or l 0 0) is ∙ one))
