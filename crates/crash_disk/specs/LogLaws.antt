-- The laws of a disk, of a log.
use Rattle.std.specs.Prelude.{◌≡◌, ℕ, ◌≤◌, List, [], ◌∷◌, length, refl}
use Rattle.std.proofs.Common.{inl, inr, sym, subst, arith}
use Rattle.std.proofs.lemmas.List.{take_all}
use Rattle.crash_disk.specs.Disk.{IsTorn}
use Rattle.crash_disk.specs.Log.{Step, Wrote, Synced, after_step, after_steps, left_after, IsLeft, contents, MayLeave, LeftSince, synced_bytes, safe_contents}

torn_same : (at n : ℕ) (c : List ℕ) → IsTorn at n c c
torn_same at n c = record { stays = λ i lt out. refl; no_shorter = omega arith; no_longer = omega arith }

read_left : (m : List ℕ) (left : List ℕ → Type 0) (xs : List Step) → left m → IsLeft m left xs (after_steps m xs)
read_left m left [] has = has
read_left m left (Wrote at piece ∷ xs) has = read_left (after_step m (Wrote at piece)) (left_after m left (Wrote at piece)) xs (inr refl)
read_left m left (Synced ∷ xs) has = read_left m (left_after m left Synced) xs refl

pub read_is_left : (xs : List Step) → MayLeave xs (contents xs)
read_is_left xs = read_left [] (λ d. d ≡ []) xs refl

safe_left : (kept m : List ℕ) (left : List ℕ → Type 0) (xs : List Step) → left kept → IsLeft m left xs (synced_bytes kept m xs)
safe_left kept m left [] has = has
safe_left kept m left (Wrote at piece ∷ xs) has = safe_left kept (after_step m (Wrote at piece)) (left_after m left (Wrote at piece)) xs (inl (kept, has, torn_same at (length piece) kept))
safe_left kept m left (Synced ∷ xs) has = safe_left m m (left_after m left Synced) xs refl

pub safe_is_left : (xs : List Step) → MayLeave xs (safe_contents xs)
safe_is_left xs = safe_left [] [] (λ d. d ≡ []) xs refl

pub counts_now : (xs : List Step) (t : ℕ) (c : List ℕ) → t ≤ length xs → MayLeave xs c → LeftSince xs t c
counts_now xs t c le left = (length xs, le, omega arith, subst (λ (l : List Step). MayLeave l c) (sym (take_all (length xs) xs (omega arith))) left)

pub only_now : (xs : List Step) (c : List ℕ) → LeftSince xs (length xs) c → MayLeave xs c
only_now xs c left = subst (λ (l : List Step). MayLeave l c) (take_all left.0 xs left.1) left.3
