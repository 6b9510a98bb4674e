-- The call at a place of a log, with its bytes.
use Rattle.std.proofs.Common.{slice_get, zero, suc, Some, ◌≡◌, ℕ, ◌+◌, ◌-◌, ◌≤◌, List, [], ◌∷◌, length, take, drop, sym, ◌∙◌, ap, arith, length-drop}
use Rattle.std.proofs.lemmas.List.{drop-drop}
use Rattle.crash_disk.specs.declared.call.Call.{Call}
use Rattle.crash_disk.specs.declared.call.Call.TheVariants as call
use Rattle.crash_disk.specs.Log.{Wrote, Synced, steps, total}

pub total_back : (cs : List Call) (p : ℕ) → total (drop p cs) ≤ total cs
total_back cs zero = omega arith
total_back [] (suc p) = omega arith
total_back (call.Write at n ∷ cs) (suc p) = omega (arith, total_back cs p)
total_back (call.Sync ∷ cs) (suc p) = total_back cs p

-- the bytes of the writes from place p on, which are the last ones
abbrev pub back : List Call → List ℕ → ℕ → List ℕ
back cs bytes p = drop (length bytes - total (drop p cs)) bytes

back_less : (cs : List Call) (bytes : List ℕ) (p n : ℕ) → n + total cs ≡ length bytes → drop (length (drop n bytes) - total (drop p cs)) (drop n bytes) ≡ back cs bytes p
back_less cs bytes p n counted =
    let few = total_back cs p in
    let same : n + (length (drop n bytes) - total (drop p cs)) ≡ length bytes - total (drop p cs) = omega (arith, length-drop n bytes, few, counted) in
    drop-drop (length (drop n bytes) - total (drop p cs)) n bytes ∙ ap (λ (k : ℕ). drop k bytes) same

pub write_at : (cs : List Call) (bytes : List ℕ) (p at n : ℕ) → total cs ≡ length bytes → slice_get cs p ≡ Some (call.Write at n)
    → slice_get (steps cs bytes) p ≡ Some (Wrote at (take n (back cs bytes p)))
write_at [] bytes p at n counted is = absurd (cc)
write_at (c ∷ cs) bytes zero at n counted is =
    let q : c ≡ call.Write at n = cc in
    let none : length bytes - total (c ∷ cs) ≡ 0 = omega (arith, counted) in
    ap (λ (d : Call). slice_get (steps (d ∷ cs) bytes) 0) q ∙ ap (λ (k : ℕ). Some (Wrote at (take n (drop k bytes)))) (sym none)
write_at (call.Write at' n' ∷ cs) bytes (suc p) at n counted is =
    write_at cs (drop n' bytes) p at n (omega (arith, length-drop n' bytes, counted)) is
    ∙ ap (λ (l : List ℕ). Some (Wrote at (take n l))) (back_less cs bytes p n' counted)
write_at (call.Sync ∷ cs) bytes (suc p) at n counted is = write_at cs bytes p at n counted is

pub sync_at : (cs : List Call) (bytes : List ℕ) (p : ℕ) → slice_get cs p ≡ Some call.Sync → slice_get (steps cs bytes) p ≡ Some Synced
sync_at [] bytes p is = absurd (cc)
sync_at (c ∷ cs) bytes zero is = let q : c ≡ call.Sync = cc in ap (λ (d : Call). slice_get (steps (d ∷ cs) bytes) 0) q
sync_at (call.Write at' n' ∷ cs) bytes (suc p) is = sync_at cs (drop n' bytes) p is
sync_at (call.Sync ∷ cs) bytes (suc p) is = sync_at cs bytes p is

pub starts_at : (cs : List Call) (p at n : ℕ) → slice_get cs p ≡ Some (call.Write at n) → n ≤ total (drop p cs)
starts_at [] p at n is = absurd (cc)
starts_at (c ∷ cs) zero at n is =
    let q : c ≡ call.Write at n = cc in
    omega (arith, ap (λ (d : Call). total (d ∷ cs)) q)
starts_at (c ∷ cs) (suc p) at n is = starts_at cs p at n is

pub wrote_at : (cs : List Call) (bytes : List ℕ) (p at n from : ℕ) (piece : List ℕ) → total cs ≡ length bytes → slice_get cs p ≡ Some (call.Write at n) → from + total (drop p cs) ≡ length bytes
    → piece ≡ take n (drop from bytes)
    → slice_get (steps cs bytes) p ≡ Some (Wrote at piece)
wrote_at cs bytes p at n from piece counted is start piece-is =
    let back-is : length bytes - total (drop p cs) ≡ from = omega (arith, start) in
    write_at cs bytes p at n counted is
    ∙ ap (λ (k : ℕ). Some (Wrote at (take n (drop k bytes)))) back-is
    ∙ ap (λ (l : List ℕ). Some (Wrote at l)) (sym piece-is)
