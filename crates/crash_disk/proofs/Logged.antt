-- What one more step changes in a log.
use Rattle.std.specs.Prelude.{IsTrue, ◌↔◌}
use Rattle.std.proofs.Common.{Bool, true, false, replicate, slice_get, zero, Some, None, ◌≡◌, ◌⊎◌, inl, inr, ℕ, ◌+◌, ◌-◌, ◌<◌, ◌≤◌, max, List, [], ◌∷◌}
use Rattle.std.proofs.Common.{◌++◌, length, get_or, take, drop, refl, sym, ◌∙◌, ap, subst, arith, length-append, length-drop, suc, take-append-drop}
use Rattle.std.proofs.lemmas.List.{get_or-take, get_or-drop, get_or_append_left, get_or-append_right, length-take-le, take-append-le, drop-append-le, take_all, drop_all, append-nil, length-replicate}
use Rattle.std.proofs.lemmas.Bool.{cases_lt}
use Rattle.crash_disk.specs.declared.call.Call.{Call}
use Rattle.crash_disk.specs.declared.call.Call.TheVariants as call
use Rattle.crash_disk.specs.declared.room.Room.{Room}
use Rattle.crash_disk.specs.declared.room.Room.TheVariants.{Reserved, Growing}
use Rattle.crash_disk.specs.Sizes.{MayHold, reserved_calls, reserved_bytes}
use Rattle.crash_disk.specs.Disk.{IsTorn, Holds, Elapses, Follows, NoMore}
use Rattle.crash_disk.specs.Log.{Step, Wrote, Synced, steps, total, padded, written, after_step, after_steps, left_after, IsLeft}
use Rattle.crash_disk.specs.Log.{contents, MayLeave, LeftSince, byte_count, IsOneWriteLess, EndsSynced, synced_bytes, safe_contents}
use Rattle.crash_disk.specs.LogLaws.{read_is_left}

-- ---- the log

pub steps-write : (cs : List Call) (bytes piece : List ℕ) (at n : ℕ) → total cs ≡ length bytes → n ≡ length piece → steps (cs ++ call.Write at n ∷ []) (bytes ++ piece) ≡ steps cs bytes
    ++ Wrote at piece ∷ []
steps-write [] [] piece at n whole is = ap (λ (l : List ℕ). Wrote at l ∷ []) (take_all n piece (omega arith))
steps-write [] (b ∷ bytes) piece at n whole is = absurd (omega arith)
steps-write (call.Write at' n' ∷ cs) bytes piece at n whole is =
    let le : n' ≤ length bytes = omega arith in
    ap (λ (l : List ℕ). Wrote at' l ∷ steps (cs ++ call.Write at n ∷ []) (drop n' (bytes ++ piece))) (take-append-le n' bytes piece le)
    ∙ ap (λ (l : List ℕ). Wrote at' (take n' bytes) ∷ steps (cs ++ call.Write at n ∷ []) l) (drop-append-le n' bytes piece le)
    ∙ ap (λ (l : List Step). Wrote at' (take n' bytes) ∷ l) (steps-write cs (drop n' bytes) piece at n (omega (arith, length-drop n' bytes)) is)
steps-write (call.Sync ∷ cs) bytes piece at n whole is = ap (λ (l : List Step). Synced ∷ l) (steps-write cs bytes piece at n whole is)

pub steps-sync : (cs : List Call) (bytes : List ℕ) → steps (cs ++ call.Sync ∷ []) bytes ≡ steps cs bytes ++ Synced ∷ []
steps-sync [] bytes = refl
steps-sync (call.Write at n ∷ cs) bytes = ap (λ (l : List Step). Wrote at (take n bytes) ∷ l) (steps-sync cs (drop n bytes))
steps-sync (call.Sync ∷ cs) bytes = ap (λ (l : List Step). Synced ∷ l) (steps-sync cs bytes)

pub total-push : (cs : List Call) (at n : ℕ) → total (cs ++ call.Write at n ∷ []) ≡ total cs + n
total-push [] at n = omega arith
total-push (call.Write at' n' ∷ cs) at n = omega (arith, total-push cs at n)
total-push (call.Sync ∷ cs) at n = total-push cs at n

pub total-sync : (cs : List Call) → total (cs ++ call.Sync ∷ []) ≡ total cs
total-sync [] = refl
total-sync (call.Write at n ∷ cs) = ap (λ (k : ℕ). n + k) (total-sync cs)
total-sync (call.Sync ∷ cs) = total-sync cs

pub after_steps-push : (m : List ℕ) (xs : List Step) (x : Step) → after_steps m (xs ++ x ∷ []) ≡ after_step (after_steps m xs) x
after_steps-push m [] x = refl
after_steps-push m (y ∷ xs) x = after_steps-push (after_step m y) xs x

IsLeft-push : (m : List ℕ) (left : List ℕ → Type 0) (xs : List Step) (x : Step) (c : List ℕ) → IsLeft m left (xs ++ x ∷ []) c → left_after (after_steps m xs) (IsLeft m left xs) x c
IsLeft-push m left [] x c has = has
IsLeft-push m left (y ∷ xs) x c has = IsLeft-push (after_step m y) (left_after m left y) xs x c has

-- ---- time

elapses_push : (xs : List Step) (x : Step) → Elapses (length xs) (length (xs ++ x ∷ [])) (LeftSince xs) (LeftSince (xs ++ x ∷ [])) (MayLeave (xs ++ x ∷ []))
elapses_push xs x = record {
  later = omega (arith, length-append xs (x ∷ []));
  nothing_else = λ t c le left. elim (cases_lt (length xs) left.0) [
    | inl new ↦ inr (subst (λ (l : List Step). MayLeave l c) (take_all left.0 (xs ++ x ∷ []) (omega (arith, new, length-append xs (x ∷ [])))) left.3)
    | inr old ↦ inl (left.0, left.1, old, subst (λ (l : List Step). MayLeave l c) (take-append-le left.0 xs (x ∷ []) old) left.3)
  ];
  keeps = λ t c le left. (left.0, left.1, omega (arith, left.2, length-append xs (x ∷ [])), subst (λ (l : List Step). MayLeave l c) (sym (take-append-le left.0 xs (x ∷ []) left.2)) left.3);
}

pub elapses_to : (xs ys : List Step) (x : Step) → ys ≡ xs ++ x ∷ [] → Elapses (length xs) (length ys) (LeftSince xs) (LeftSince ys) (MayLeave ys)
elapses_to xs ys x is = subst (λ (l : List Step). Elapses (length xs) (length l) (LeftSince xs) (LeftSince l) (MayLeave l)) (sym is) (elapses_push xs x)

-- ---- a write

module _ (at : ℕ) (piece m : List ℕ) where
  abbrev wide : List ℕ
  wide = padded (at + length piece) m

  abbrev now : List ℕ
  now = written at piece m

  length-wide : length wide ≡ max (length m) (at + length piece)
  length-wide =
      let none : ℕ = 0 in
      omega (arith, length-append m (replicate (at + length piece - length m) none), length-replicate (at + length piece - length m) none)

  length-front : length (take at wide) ≡ at
  length-front = length-take-le at wide (omega (arith, length-wide))

  pub length-written : length now ≡ max (length m) (at + length piece)
  length-written = omega (
    arith,
    length-append (take at wide) (piece ++ drop (at + length piece) wide),
    length-append piece (drop (at + length piece) wide),
    length-front,
    length-drop (at + length piece) wide,
    length-wide,
  )

  low : (i : ℕ) → i < at → get_or now i 0 ≡ get_or wide i 0
  low i lt = get_or_append_left (take at wide) (piece ++ drop (at + length piece) wide) 0 i (omega (arith, length-front)) ∙ get_or-take at wide i 0 lt

  middle : (i : ℕ) → i < length piece → get_or now (at + i) 0 ≡ get_or piece i 0
  middle i lt =
      let back : at + i - at ≡ i = omega arith in
      get_or-append_right (take at wide) (piece ++ drop (at + length piece) wide) at (at + i) 0 length-front (omega arith)
      ∙ get_or_append_left piece (drop (at + length piece) wide) 0 (at + i - at) (omega arith)
      ∙ ap (λ (k : ℕ). get_or piece k 0) back

  high : (i : ℕ) → at + length piece ≤ i → get_or now i 0 ≡ get_or wide i 0
  high i le =
      let back : i - at - length piece ≡ i - (at + length piece) = omega arith in
      let whole : at + length piece + (i - (at + length piece)) ≡ i = omega arith in
      get_or-append_right (take at wide) (piece ++ drop (at + length piece) wide) at i 0 length-front (omega arith)
      ∙ get_or-append_right piece (drop (at + length piece) wide) (length piece) (i - at) 0 refl (omega arith)
      ∙ ap (λ (k : ℕ). get_or (drop (at + length piece) wide) k 0) back
      ∙ get_or-drop (at + length piece) wide (i - (at + length piece)) 0
      ∙ ap (λ (k : ℕ). get_or wide k 0) whole

  pub write_torn : IsTorn at (length piece) m now
  write_torn = record {
    stays = stays;
    no_shorter = omega (arith, length-written);
    no_longer = omega (arith, length-written);
  }
    where
      old : (i : ℕ) → i < length m → get_or wide i 0 ≡ get_or m i 0
      old i lt = get_or_append_left m (replicate (at + length piece - length m) 0) 0 i lt

      stays : (i : ℕ) → i < length m → (i < at) ⊎ (at + length piece ≤ i) → get_or now i 0 ≡ get_or m i 0
      stays i lt (inl below) = low i below ∙ old i lt
      stays i lt (inr above) = high i above ∙ old i lt

  pub write_holds : Holds at piece now
  write_holds = record { within = λ i lt. omega (arith, lt, length-written); each = middle }

-- ---- what the calls of a disk promise, stated of a log

module _ (xs ys : List Step) where
  pub write_crash : (at : ℕ) (piece : List ℕ) → ys ≡ xs ++ Wrote at piece ∷ [] → IsTorn at (length piece) (contents xs) (contents ys) → Follows (IsTorn at (length piece)) (MayLeave xs) (MayLeave ys)
  write_crash at piece is torn c left = either (IsLeft-push [] (λ d. d ≡ []) xs (Wrote at piece) c (subst (λ (l : List Step). MayLeave l c) is left))
    where
      made : contents ys ≡ written at piece (contents xs)
      made = ap contents is ∙ after_steps-push [] xs (Wrote at piece)

      either : left_after (contents xs) (MayLeave xs) (Wrote at piece) c → (d : List ℕ) × MayLeave xs d × IsTorn at (length piece) d c
      either (inl cut) = cut
      either (inr whole) = (contents xs, read_is_left xs, subst (IsTorn at (length piece) (contents xs)) (made ∙ sym whole) torn)

  pub sync_only : ys ≡ xs ++ Synced ∷ [] → (c : List ℕ) → MayLeave ys c → c ≡ contents xs
  sync_only is c left = IsLeft-push [] (λ d. d ≡ []) xs Synced c (subst (λ (l : List Step). MayLeave l c) is left)

  pub sync_same : ys ≡ xs ++ Synced ∷ [] → contents ys ≡ contents xs
  sync_same is = ap contents is ∙ after_steps-push [] xs Synced

  pub sync_crash : ys ≡ xs ++ Synced ∷ [] → NoMore (MayLeave xs) (MayLeave ys)
  sync_crash is c left = subst (MayLeave xs) (sym (sync_only is c left)) (read_is_left xs)

-- ---- a disk in memory, after a call

pub told_write : (xs ys : List Step) (at : ℕ) (all all' piece : List ℕ) → ys ≡ xs ++ Wrote at piece ∷ [] → contents xs ≡ all → all' ≡ written at piece all → contents ys ≡ all'
told_write xs ys at all all' piece is told is-all = ap contents is ∙ after_steps-push [] xs (Wrote at piece) ∙ ap (written at piece) told ∙ sym is-all

-- the bytes after a write to a log
wrote_contents : (xs ys : List Step) (at : ℕ) (piece : List ℕ) → ys ≡ xs ++ Wrote at piece ∷ [] → contents ys ≡ written at piece (contents xs)
wrote_contents xs ys at piece is = ap contents is ∙ after_steps-push [] xs (Wrote at piece)

pub torn_write : (xs ys : List Step) (at : ℕ) (piece : List ℕ) → ys ≡ xs ++ Wrote at piece ∷ [] → IsTorn at (length piece) (contents xs) (contents ys)
torn_write xs ys at piece is = subst (IsTorn at (length piece) (contents xs)) (sym (wrote_contents xs ys at piece is)) (write_torn at piece (contents xs))

pub holds_write : (xs ys : List Step) (at : ℕ) (piece : List ℕ) → ys ≡ xs ++ Wrote at piece ∷ [] → Holds at piece (contents ys)
holds_write xs ys at piece is = subst (Holds at piece) (sym (wrote_contents xs ys at piece is)) (write_holds at piece (contents xs))

pub joined_write : (cs cs' : List Call) (bytes bytes' piece : List ℕ) (at : ℕ) → total cs ≡ length bytes → cs' ≡ cs ++ call.Write at (length piece) ∷ [] → bytes' ≡ bytes ++ piece
    → steps cs' bytes' ≡ steps cs bytes ++ Wrote at piece ∷ []
joined_write cs cs' bytes bytes' piece at whole is-cs is-bytes =
    ap (λ (l : List Call). steps l bytes') is-cs ∙ ap (λ (l : List ℕ). steps (cs ++ call.Write at (length piece) ∷ []) l) is-bytes ∙ steps-write cs bytes piece at (length piece) whole refl

pub joined_sync : (cs cs' : List Call) (bytes : List ℕ) → cs' ≡ cs ++ call.Sync ∷ [] → steps cs' bytes ≡ steps cs bytes ++ Synced ∷ []
joined_sync cs cs' bytes is = ap (λ (l : List Call). steps l bytes) is ∙ steps-sync cs bytes

-- ---- the safe bytes

synced-push : (kept m : List ℕ) (xs : List Step) → synced_bytes kept m (xs ++ Synced ∷ []) ≡ after_steps m xs
synced-push kept m [] = refl
synced-push kept m (Wrote at piece ∷ xs) = synced-push kept (after_step m (Wrote at piece)) xs
synced-push kept m (Synced ∷ xs) = synced-push m m xs

unsynced-push : (kept m : List ℕ) (xs : List Step) (at : ℕ) (piece : List ℕ) → synced_bytes kept m (xs ++ Wrote at piece ∷ []) ≡ synced_bytes kept m xs
unsynced-push kept m [] at piece = refl
unsynced-push kept m (Wrote k q ∷ xs) at piece = unsynced-push kept (after_step m (Wrote k q)) xs at piece
unsynced-push kept m (Synced ∷ xs) at piece = unsynced-push m m xs at piece

pub safe_sync : (xs ys : List Step) → ys ≡ xs ++ Synced ∷ [] → safe_contents ys ≡ contents xs
safe_sync xs ys is = ap safe_contents is ∙ synced-push [] [] xs

pub safe_write : (xs ys : List Step) (at : ℕ) (piece : List ℕ) → ys ≡ xs ++ Wrote at piece ∷ [] → safe_contents ys ≡ safe_contents xs
safe_write xs ys at piece is = ap safe_contents is ∙ unsynced-push [] [] xs at piece

-- ---- the length of a log

pub length-steps : (cs : List Call) (bytes : List ℕ) → length (steps cs bytes) ≡ length cs
length-steps [] bytes = refl
length-steps (call.Write at n ∷ cs) bytes = ap (λ (k : ℕ). suc k) (length-steps cs (drop n bytes))
length-steps (call.Sync ∷ cs) bytes = ap (λ (k : ℕ). suc k) (length-steps cs bytes)

pub count-steps : (cs : List Call) (bytes : List ℕ) → total cs ≤ length bytes → byte_count (steps cs bytes) ≡ total cs
count-steps [] bytes le = refl
count-steps (call.Write at n ∷ cs) bytes le = omega (arith, count-steps cs (drop n bytes) (omega (arith, length-drop n bytes)), length-take-le n bytes (omega arith))
count-steps (call.Sync ∷ cs) bytes le = count-steps cs bytes le

pub count-push : (xs : List Step) (at : ℕ) (piece : List ℕ) → byte_count (xs ++ Wrote at piece ∷ []) ≡ byte_count xs + length piece
count-push [] at piece = omega arith
count-push (Wrote k q ∷ xs) at piece = omega (arith, count-push xs at piece)
count-push (Synced ∷ xs) at piece = count-push xs at piece

pub count-sync : (xs : List Step) → byte_count (xs ++ Synced ∷ []) ≡ byte_count xs
count-sync [] = refl
count-sync (Wrote k q ∷ xs) = ap (λ (n : ℕ). length q + n) (count-sync xs)
count-sync (Synced ∷ xs) = count-sync xs

-- ---- one write less

pub one_less : (cs : List Call) (bytes : List ℕ) (at n : ℕ) → total (cs ++ call.Write at n ∷ []) ≡ length bytes → IsOneWriteLess (steps (cs ++ call.Write at n ∷ []) bytes)
    (steps cs (take (length bytes - n) bytes))
one_less cs bytes at n counted =
    let kept = length bytes - n in
    let low : total cs ≡ kept = omega (arith, total-push cs at n) in
    record {
      at = at;
      piece = drop kept bytes;
      is =
          ap (λ (l : List ℕ). steps (cs ++ call.Write at n ∷ []) l) (sym (take-append-drop kept bytes))
          ∙ steps-write cs (take kept bytes) (drop kept bytes) at n (omega (arith, length-take-le kept bytes (omega arith))) (omega (arith, length-drop kept bytes, total-push cs at n));
    }

pub less_safe : (old new : List Step) → IsOneWriteLess old new → safe_contents new ≡ safe_contents old
less_safe old new less = sym (safe_write new old less.at less.piece less.is)

pub less_length : (old new : List Step) → IsOneWriteLess old new → suc (length new) ≡ length old
less_length old new less = omega (arith, ap length less.is, length-append new (Wrote less.at less.piece ∷ []))

pub less_count : (old new : List Step) → IsOneWriteLess old new → byte_count new ≤ byte_count old
less_count old new less = omega (arith, ap byte_count less.is, count-push new less.at less.piece)

pub ended_contents : (xs : List Step) → EndsSynced xs → contents xs ≡ safe_contents xs
ended_contents xs (inl none) = ap contents none ∙ sym (ap safe_contents none)
ended_contents xs (inr last) = sync_same last.0 xs last.1 ∙ sym (safe_sync last.0 xs last.1)

pub ended_only : (xs : List Step) → EndsSynced xs → (c : List ℕ) → MayLeave xs c → c ≡ safe_contents xs
ended_only xs (inl none) c left = subst (λ (l : List Step). MayLeave l c) none left ∙ sym (ap safe_contents none)
ended_only xs (inr last) c left = sync_only last.0 xs last.1 c left ∙ sym (safe_sync last.0 xs last.1)

-- ---- the writes, by their calls and bytes

pub sizes : (cs : List Call) (bytes : List ℕ) (xs : List Step) → steps cs bytes ≡ xs → total cs ≡ length bytes → (length xs ≡ length cs) × (byte_count xs ≡ length bytes)
sizes cs bytes xs is counted = (ap length (sym is) ∙ length-steps cs bytes, ap byte_count (sym is) ∙ count-steps cs bytes (omega arith) ∙ counted)

last_at : (cs : List Call) (k : ℕ) (c : Call) → length cs ≡ suc k → slice_get cs k ≡ Some c → cs ≡ take k cs ++ c ∷ []
last_at [] k c long is = absurd (omega arith)
last_at (d ∷ []) zero c long is = let q : d ≡ c = cc in ap (λ (z : Call). z ∷ []) q
last_at (d ∷ e ∷ ds) zero c long is = absurd (omega arith)
last_at (d ∷ ds) (suc k) c long is = ap (λ (l : List Call). d ∷ l) (last_at ds k c (omega arith) is)

pub popped : (cs popped : List Call) (n : ℕ) (c : Call) → length cs ≡ n → 0 < n → Some c ≡ slice_get cs (n - 1) → popped ≡ take (n - 1) cs → cs ≡ popped ++ c ∷ []
popped cs left n c long some is rest = last_at cs (n - 1) c (omega arith) (sym is) ∙ ap (λ (l : List Call). l ++ c ∷ []) (sym rest)

pub got_some : (cs : List Call) (k : ℕ) (c : Call) → Some c ≡ slice_get cs k → k < length cs
got_some [] k c is = absurd (cc)
got_some (d ∷ ds) zero c is = omega arith
got_some (d ∷ ds) (suc k) c is = omega (arith, got_some ds k c is)

pub got_none : (cs : List Call) → None ≡ slice_get cs (length cs - 1) → cs ≡ []
got_none [] is = refl
got_none (d ∷ ds) is = absurd (none_there (d ∷ ds) (length (d ∷ ds) - 1) (omega arith) is)
  where
    none_there : (xs : List Call) (k : ℕ) → k < length xs → None ≡ slice_get xs k → ⊥
    none_there [] k lt e = omega arith
    none_there (x ∷ xs) zero lt e = absurd (cc)
    none_there (x ∷ xs) (suc k) lt e = none_there xs k (omega arith) e

pub ended : (cs : List Call) (bytes : List ℕ) → Some call.Sync ≡ slice_get cs (length cs - 1) → EndsSynced (steps cs bytes)
ended cs bytes got =
    let k = length cs - 1 in
    let low = got_some cs k call.Sync got in
    let split = last_at cs k call.Sync (omega arith) (sym got) in
    inr (steps (take k cs) bytes, ap (λ (l : List Call). steps l bytes) split ∙ steps-sync (take k cs) bytes)

pub write_within : (cs : List Call) (bytes : List ℕ) (at n : ℕ) → total cs ≡ length bytes → Some (call.Write at n) ≡ slice_get cs (length cs - 1) → n ≤ length bytes
write_within cs bytes at n counted got =
    let k = length cs - 1 in
    let low = got_some cs k (call.Write at n) got in
    let split = last_at cs k (call.Write at n) (omega arith) (sym got) in
    omega (arith, ap total split, total-push (take k cs) at n)

-- the bytes and the calls without the last write
pub one_less_of : (cs less : List Call) (bytes fewer : List ℕ) (at n : ℕ) (old : List Step) → cs ≡ less ++ call.Write at n ∷ [] → fewer ≡ take (length bytes - n) bytes → total cs ≡ length bytes
    → steps cs bytes ≡ old → IsOneWriteLess old (steps less fewer)
one_less_of cs less bytes fewer at n old split is counted view =
    subst (λ (o : List Step). IsOneWriteLess o (steps less fewer)) (ap (λ (l : List Call). steps l bytes) (sym split) ∙ view)
    (subst (λ (b : List ℕ). IsOneWriteLess (steps (less ++ call.Write at n ∷ []) bytes) (steps less b)) (sym is) (one_less less bytes at n (ap total (sym split) ∙ counted)))

-- a write of a log, carried out again
pub replayed : (at size : ℕ) (image rest image' rest' piece : List ℕ) (ds : List Call) (target : List ℕ) → after_steps image (steps (call.Write at size ∷ ds) rest) ≡ target → piece ≡ take size rest
    → rest' ≡ drop size rest
    → image' ≡ written at piece image → after_steps image' (steps ds rest') ≡ target
replayed at size image rest image' rest' piece ds target told is-piece is-rest is-image =
    ap (λ (r : List ℕ). after_steps image' (steps ds r)) is-rest
    ∙ ap (λ (a : List ℕ). after_steps a (steps ds (drop size rest))) is-image
    ∙ ap (λ (p : List ℕ). after_steps (written at p image) (steps ds (drop size rest))) is-piece
    ∙ told

-- the length never decreases, and each write ends within the bytes at the end
pub no_shorter : (m : List ℕ) (xs : List Step) → length m ≤ length (after_steps m xs)
no_shorter m [] = omega arith
no_shorter m (Wrote at piece ∷ xs) = omega (arith, length-written at piece m, no_shorter (written at piece m) xs)
no_shorter m (Synced ∷ xs) = no_shorter m xs

pub next_fits : (at size : ℕ) (image rest piece : List ℕ) (ds : List Call) (target : List ℕ) → after_steps image (steps (call.Write at size ∷ ds) rest) ≡ target → piece ≡ take size rest
    → at + length piece ≤ length target
next_fits at size image rest piece ds target told is-piece =
    omega (arith, ap length told, ap length is-piece, length-written at (take size rest) image, no_shorter (written at (take size rest) image) (steps ds (drop size rest)))

pub less_long : (old new : List Step) → IsOneWriteLess old new → length (contents new) ≤ length (contents old)
less_long old new less = omega (
  arith,
  ap (λ (xs : List Step). length (contents xs)) less.is,
  ap length (after_steps-push [] new (Wrote less.at less.piece)),
  length-written less.at less.piece (contents new),
)

none_left : (bytes : List ℕ) → length (padded (0 + length bytes) []) ≡ 0 + length bytes
none_left bytes =
    let none : ℕ = 0 in
    let all : 0 + length bytes - 0 ≡ 0 + length bytes = omega arith in
    length-replicate (0 + length bytes - 0) none ∙ all

-- a disk that was written once, whole, and synced
pub filled : (bytes : List ℕ) → contents (Wrote 0 bytes ∷ Synced ∷ []) ≡ bytes
filled bytes =
    ap (λ (l : List ℕ). bytes ++ l) (drop_all (0 + length bytes) (padded (0 + length bytes) []) (omega (arith, none_left bytes)))
    ∙ append-nil bytes

-- ---- the room of a log

pub has_room : (r : Room) (b : Bool) (calls bytes : ℕ) → (IsTrue b ↔ MayHold r calls bytes) → b ≡ false → r ≡ Reserved → calls ≤ reserved_calls → bytes ≤ reserved_bytes → ⊥
has_room r b calls bytes holds refused is few few_bytes = absurd (cc (refused, holds.1 (subst (λ (q : Room). MayHold q calls bytes) (sym is) (few, few_bytes))))

pub holds_all : (r : Room) (b : Bool) (calls bytes : ℕ) → (IsTrue b ↔ MayHold r calls bytes) → b ≡ false → (r ≡ Reserved → (calls ≤ reserved_calls) × (bytes ≤ reserved_bytes)) → ⊥
holds_all Reserved b calls bytes holds refused fits = absurd (cc (refused, holds.1 (fits refl)))
holds_all Growing b calls bytes holds refused fits = absurd (cc (refused, holds.1 tt))

pub both_used : (r : Room) (b : Bool) (calls bytes : ℕ) → (IsTrue b ↔ MayHold r calls bytes) → b ≡ true → r ≡ Reserved → (calls ≤ reserved_calls) × (bytes ≤ reserved_bytes)
both_used r b calls bytes holds fits is = subst (λ (q : Room). MayHold q calls bytes) is (holds.0 fits)

pub room_used : (r : Room) (b : Bool) (calls bytes : ℕ) → (IsTrue b ↔ MayHold r calls bytes) → b ≡ true → r ≡ Reserved → calls ≤ reserved_calls
room_used r b calls bytes holds fits is = (subst (λ (q : Room). MayHold q calls bytes) is (holds.0 fits)).0
