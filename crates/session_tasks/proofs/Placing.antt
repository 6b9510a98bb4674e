-- The place of a session among the sessions that have a script.
use Rattle.std.proofs.Common.{◌≡◌, ◌≢◌, ℕ, zero, suc, ◌+◌, ◌<◌, Bool, true, false, if◌then◌else◌, List, [], ◌∷◌, length, Option}
use Rattle.std.proofs.Common.{Some, None, IfSome, option_map, unwrap_or, eqb, eq-eqb, ne_eqb, eqb-true, refl, sym, ◌∙◌, ap, arith}
use Rattle.std.specs.List.{slice_get}
use Rattle.teb_rules.specs.declared.names.Session.{Session}
use Rattle.script_text.specs.declared.Line.{Line}
use Rattle.session_tasks.specs.Scripted.{Scripted, AreDistinct, place_from, place_in, lines_at}

abbrev session_at : Scripted → ℕ → Option Session
session_at scripts i = option_map (λ e. e.0) (slice_get scripts i)

-- no script before place i is of session s
abbrev pub NoneBefore : Scripted → ℕ → ℕ → Type 0
NoneBefore scripts s i = (k : ℕ) (t : Session) → k < i → session_at scripts k ≡ Some t → t.0 ≢ s

pub place_is : (scripts : Scripted) (n s i m : ℕ) (t : Session) → NoneBefore scripts s i → session_at scripts i ≡ Some t → t.0 ≡ s → m ≡ n + i → place_from n s scripts ≡ Some m
place_is [] n s i m t h at e q = absurd (cc)
place_is (x ∷ xs) n s zero m t h at e q =
    let y : x.0 ≡ t = cc in
    ap (λ b. if b then Some n else place_from (suc n) s xs) (eq-eqb x.0.0 s (ap (λ (v : Session). v.0) y ∙ e)) ∙ ap Some (let z : n ≡ m = omega arith in z)
place_is (x ∷ xs) n s (suc i) m t h at e q =
    ap (λ b. if b then Some n else place_from (suc n) s xs) (ne_eqb x.0.0 s (h 0 x.0 (omega arith) refl))
    ∙ place_is xs (suc n) s i m t (λ k u l a. h (suc k) u (omega arith) a) at e (omega arith)

pub place_none : (scripts : Scripted) (n s : ℕ) → NoneBefore scripts s (length scripts) → place_from n s scripts ≡ None
place_none [] n s h = refl
place_none (x ∷ xs) n s h =
    ap (λ b. if b then Some n else place_from (suc n) s xs) (ne_eqb x.0.0 s (h 0 x.0 (omega arith) refl))
    ∙ place_none xs (suc n) s (λ k u l a. h (suc k) u (omega arith) a)

-- the script at the place that was found
pub record IsFoundAt (scripts : Scripted) (n s m : ℕ) : Type 0 where
  pub index : ℕ
  pub lines : List Line
  pub is : m ≡ n + index
  pub within : index < length scripts
  pub there : slice_get scripts index ≡ Some (record { 0 = s }, lines)

found_from : (b : Bool) (x : Session × List Line) (xs : Scripted) (n s m : ℕ) → eqb x.0.0 s ≡ b → (if b then Some n else place_from (suc n) s xs) ≡ Some m
    → (place_from (suc n) s xs ≡ Some m → IsFoundAt xs (suc n) s m) → IsFoundAt (x ∷ xs) n s m
found_from true x xs n s m e q f = record {
  index = 0;
  lines = x.1;
  is = (let z : n ≡ m = cc in omega arith);
  within = omega arith;
  there = ap (λ (y : ℕ). Some (record { 0 = y }, x.1)) (eqb-true x.0.0 s e);
}
found_from false x xs n s m e q f = let r = f q in record {
  index = suc r.index;
  lines = r.lines;
  is = (let z = r.is in omega arith);
  within = (let z = r.within in omega arith);
  there = r.there;
}

pub place_found : (scripts : Scripted) (n s m : ℕ) → place_from n s scripts ≡ Some m → IsFoundAt scripts n s m
place_found [] n s m q = absurd (cc)
place_found (x ∷ xs) n s m q = found_from (eqb x.0.0 s) x xs n s m refl q (place_found xs (suc n) s m)

rest_none : (b : Bool) (n : ℕ) (r : Option ℕ) → (if b then Some n else r) ≡ None → r ≡ None
rest_none true n r q = absurd (cc)
rest_none false n r q = q

pub place_lacks : (scripts : Scripted) (n s : ℕ) → place_from n s scripts ≡ None → (i : ℕ) (l : List Line) → slice_get scripts i ≢ Some (record { 0 = s }, l)
place_lacks [] n s q i l e = absurd (cc)
place_lacks (x ∷ xs) n s q zero l e =
    let y : x ≡ (record { 0 = s }, l) = cc in
    let z : Some n ≡ None = sym (ap (λ b. if b then Some n else place_from (suc n) s xs) (eq-eqb x.0.0 s (ap (λ (v : Session × List Line). v.0.0) y))) ∙ q in absurd (cc)
place_lacks (x ∷ xs) n s q (suc i) l e = place_lacks xs (suc n) s (rest_none (eqb x.0.0 s) n _ q) i l e

-- the place of a session is within the list of scripts
pub place_within : (scripts : Scripted) (s i : ℕ) → place_in scripts s ≡ Some i → i < length scripts
place_within scripts s i q = let f = place_found scripts 0 s i q in let z = f.is in let y = f.within in omega arith

pub place_script : (scripts : Scripted) (s i : ℕ) → place_in scripts s ≡ Some i → (l : List Line) × (slice_get scripts i ≡ Some (record { 0 = s }, l))
place_script scripts s i q = let f = place_found scripts 0 s i q in (f.lines, ap (slice_get scripts) (let z = f.is in let y : i ≡ f.index = omega arith in y) ∙ f.there)

pub lines_there : (scripts : Scripted) (i : ℕ) (s : Session) (l : List Line) → slice_get scripts i ≡ Some (s, l) → lines_at scripts (Some i) ≡ l
lines_there scripts i s l e = ap (λ (o : Option (Session × List Line)). unwrap_or (option_map (λ x. x.1) o) []) e

-- the lines at a session's place are those of its script
pub script_lines : (scripts : Scripted) → AreDistinct scripts → (s : Session) (o : Option ℕ) → o ≡ place_in scripts s.0 → (i : ℕ) (l : List Line) → slice_get scripts i ≡ Some (s, l)
    → lines_at scripts o ≡ l
script_lines scripts d s None q i l e = absurd (place_lacks scripts 0 s.0 (sym q) i l e)
script_lines scripts d s (Some j) q i l e =
    let f = place_script scripts s.0 j (sym q) in
    let same : i ≡ j = d i j s l f.0 e f.1 in
    ap (λ (k : ℕ). lines_at scripts (Some k)) (sym same) ∙ lines_there scripts i s l e

pub within_any : (scripts : Scripted) (s : ℕ) (o : Option ℕ) → o ≡ place_in scripts s → IfSome o (λ i. i < length scripts)
within_any scripts s None q = tt
within_any scripts s (Some i) q = place_within scripts s i (sym q)
