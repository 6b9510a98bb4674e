-- Groups of writes and syncs.
use Rattle.std.proofs.Common.{◌≡◌, ℕ, ◌+◌, ◌-◌, ◌≤◌, subst, ap, arith, Result, Ok, Err}
use Rattle.std.specs.Prelude.{IsErr, IsOk}
use Rattle.crash_disk.specs.Calls.{Promise, Tally, AreCalls}
use Rattle.crash_disk.proofs.Groups.{cut, then_ok, then_err, as_before}

-- one more group
pub more : {T E U F : Type 0} (K N k n k2 n2 : ℕ) (a b c : Tally) (v : T) (s : Result U F) → k + k2 ≡ K → n + n2 ≡ N → AreCalls {E = E} a.promise.writes k n a b (Ok v)
    → AreCalls b.promise.writes k2 n2 b c s → AreCalls a.promise.writes K N a c s
more {U = U} {F = F} K N k n k2 n2 a b c v s is-k is-n one two =
    subst (λ (m : ℕ). AreCalls a.promise.writes m N a c s) is-k
    (subst (λ (m : ℕ). AreCalls a.promise.writes (k + k2) m a c s) is-n (go s (as_before a.promise.writes b.promise.writes k2 n2 b c s (ap (λ (p : Promise). p.writes) one.up_to.promise) two)))
  where
    go : (s : Result U F) → AreCalls a.promise.writes k2 n2 b c s → AreCalls a.promise.writes (k + k2) (n + n2) a c s
    go (Ok w) t = then_ok a.promise.writes k n k2 n2 a b c v w one t
    go (Err e) t = then_err a.promise.writes k n k2 n2 a b c v e one t

-- the last group failed
pub stop : {T E U F : Type 0} (K N k n : ℕ) (a b : Tally) (r : Result T E) (s : Result U F) → k ≤ K → n ≤ N → AreCalls a.promise.writes k n a b r → IsErr r → IsErr s
    → AreCalls a.promise.writes K N a b s
stop {U = U} {F = F} K N k n a b r s le-k le-n one failed this =
    let is-k : k + (K - k) ≡ K = omega arith in
    let is-n : n + (N - n) ≡ N = omega arith in
    subst (λ (m : ℕ). AreCalls a.promise.writes m N a b s) is-k (subst (λ (m : ℕ). AreCalls a.promise.writes (k + (K - k)) m a b s) is-n (go s this))
  where
    go : (s : Result U F) → IsErr s → AreCalls a.promise.writes (k + (K - k)) (n + (N - n)) a b s
    go (Ok w) e = absurd (cc)
    go (Err f) e = cut a.promise.writes k n (K - k) (N - n) a b r f one failed

-- the calls began with an equal tally
pub calls_since : {T E : Type 0} (k n : ℕ) (a b c : Tally) (r : Result T E) → b ≡ a → AreCalls b.promise.writes k n b c r → AreCalls a.promise.writes k n a c r
calls_since k n a b c r is calls = subst (λ (t : Tally). AreCalls t.promise.writes k n t c r) is calls

pub never_fails : {T E : Type 0} (r : Result T E) → IsOk r → IsErr r → ⊥
never_fails (Ok v) a b = absurd (cc)
never_fails (Err e) a b = absurd (cc)
