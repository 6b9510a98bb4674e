-- Groups of calls, one after the other.
use Rattle.std.proofs.Common.{◌≡◌, ℕ, ◌+◌, ◌≤◌, refl, sym, ◌∙◌, ap, subst, inl, inr, arith, Result, Ok, Err}
use Rattle.std.specs.Prelude.{IsOk, IsErr}
use Rattle.teb_io.specs.Faults.{next}
use Rattle.crash_disk.specs.declared.room.Room.{Room}
use Rattle.crash_disk.specs.Calls.{Promise, Tally, IsBefore, IsFrom, AreSure, Fails, IsUpTo, AreCalls, memory_tally}

before_fewer : (stop n m : ℕ) → IsBefore stop n → m ≤ n → IsBefore stop m
before_fewer stop n m (inl none) le = inl none
before_fewer stop n m (inr low) le = inr (omega arith)

-- ---- one call of a disk in memory

pub call_ok : {T E : Type 0} (most made made' written written' stop stop' n : ℕ) (room room' : Room) (v : T) → room' ≡ room → made' ≡ next made → stop' ≡ stop → written' ≤ written + n
    → (IsFrom stop (next made) → ⊥) → AreCalls {E = E} most 1 n (memory_tally made written stop room) (memory_tally made' written' stop' room') (Ok v)
call_ok most made made' written written' stop stop' n room room' v roomy is same le never = record {
  up_to = record { made = omega arith; written = le; promise = ap (λ (s : ℕ). (memory_tally 0 0 s room').promise) same ∙ ap (λ (r : Room). (memory_tally 0 0 stop r).promise) roomy };
  all = λ small. omega arith;
  sure = λ s. refl;
  fails = λ f. let small = f.small in absurd (never (f.from.0, omega (arith, f.from.1)));
}

-- ---- two groups of calls

pub up_to_then : (k n k' n' : ℕ) (a b c : Tally) → IsUpTo k n a b → IsUpTo k' n' b c → IsUpTo (k + k') (n + n') a c
up_to_then k n k' n' a b c one two = record { made = omega (arith, one.made, two.made); written = omega (arith, one.written, two.written); promise = two.promise ∙ one.promise }

pub up_to_more : (k n k' n' : ℕ) (a b : Tally) → IsUpTo k n a b → IsUpTo (k + k') (n + n') a b
up_to_more k n k' n' a b one = record { made = omega (arith, one.made); written = omega (arith, one.written); promise = one.promise }

pub sure_first : (most k n k' n' : ℕ) (a : Tally) → AreSure most (k + k') (n + n') a → AreSure most k n a
sure_first most k n k' n' a s = record {
  before = before_fewer a.promise.stop (a.made + (k + k')) (a.made + k) s.before (omega arith);
  promised = omega (arith, s.promised);
  fits = omega (arith, s.fits);
}

pub sure_then : (most k n k' n' : ℕ) (a b : Tally) → AreSure most (k + k') (n + n') a → IsUpTo k n a b → AreSure most k' n' b
sure_then most k n k' n' a b s one = record {
  before = subst (λ (p : Promise). IsBefore p.stop (b.made + k')) (sym one.promise) (before_fewer a.promise.stop (a.made + (k + k')) (b.made + k') s.before (omega (arith, one.made)));
  promised = omega (arith, s.promised, one.made);
  fits = omega (arith, s.fits, one.written, ap (λ (p : Promise). p.bytes) one.promise);
}

not_both : {T E : Type 0} (r : Result T E) → IsOk r → IsErr r → ⊥
not_both (Ok v) a b = absurd (cc)
not_both (Err e) a b = absurd (cc)

-- the first group stopped, so there was no second one
pub cut : {T E U F : Type 0} (most k n k' n' : ℕ) (a b : Tally) (r : Result T E) (e : F) → AreCalls most k n a b r → IsErr r → AreCalls {T = U} most (k + k') (n + n') a b (Err e)
cut most k n k' n' a b r e one failed = record {
  up_to = up_to_more k n k' n' a b one.up_to;
  all = tt;
  sure = λ s. absurd (not_both r (one.sure (sure_first most k n k' n' a s)) failed);
  fails = λ f. refl;
}

fails_then : (k n k' : ℕ) (a b : Tally) → IsUpTo k n a b → b.made ≡ a.made + k → Fails (k + k') a → Fails k' b
fails_then k n k' a b one all f = record {
  from = (omega (arith, f.from.0, ap (λ (p : Promise). p.stop) one.promise), omega (arith, f.from.1, all, ap (λ (p : Promise). p.stop) one.promise));
  small = omega (arith, f.small, all);
}

-- the first group succeeded, and the second succeeded or stopped
pub then_ok : {T E U F : Type 0} (most k n k' n' : ℕ) (a b c : Tally) (v : T) (w : U) → AreCalls {E = E} most k n a b (Ok v) → AreCalls {E = F} most k' n' b c (Ok w)
    → AreCalls {E = F} most (k + k') (n + n') a c (Ok w)
then_ok most k n k' n' a b c v w one two = record {
  up_to = up_to_then k n k' n' a b c one.up_to two.up_to;
  all = λ small. let first = one.all (omega arith) in omega (arith, first, two.all (omega (arith, first)));
  sure = λ s. refl;
  fails = λ f. two.fails (fails_then k n k' a b one.up_to (one.all (let z = f.small in omega arith)) f);
}

pub then_err : {T E U F : Type 0} (most k n k' n' : ℕ) (a b c : Tally) (v : T) (e : F) → AreCalls {E = E} most k n a b (Ok v) → AreCalls {T = U} most k' n' b c (Err e)
    → AreCalls {T = U} most (k + k') (n + n') a c (Err e)
then_err most k n k' n' a b c v e one two = record {
  up_to = up_to_then k n k' n' a b c one.up_to two.up_to;
  all = tt;
  sure = λ s. two.sure (sure_then most k n k' n' a b s one.up_to);
  fails = λ f. refl;
}

-- the promise does not change, so a group may be stated with the promise before it
pub as_before : {T E : Type 0} (most most' k n : ℕ) (a b : Tally) (r : Result T E) → most' ≡ most → AreCalls most' k n a b r → AreCalls most k n a b r
as_before most most' k n a b r is = subst (λ (m : ℕ). AreCalls m k n a b r) is
