-- The lines of a script that was read belong to sessions 1 to SESSIONS.
use Rattle.std.proofs.Common.{◌≡◌, ℕ, ◌+◌, ◌<◌, ◌≤◌, ◌==◌, Bool, true, false, if◌then◌else◌, List, [], ◌∷◌, ◌++◌, length}
use Rattle.std.proofs.Common.{suc, Option, Some, None, Result, Ok, Err, slice_index, refl, ◌∙◌, ap, subst, arith}
use Rattle.std.specs.Prelude.{IfOk, Vec}
use Rattle.std.specs.declared.alloc.Global.{Global}
use Rattle.std.specs.Option.{ok_or, option_and_then, option_to_list}
use Rattle.std.specs.Str.Parse.{digits_value}
use Rattle.std.proofs.lemmas.Bool.{and_parts, leb-true, eqb-false}
use Rattle.teb_rules.specs.declared.names.TheConstants.{SESSIONS}
use Rattle.teb_rules.specs.declared.names.Session.{Session}
use Rattle.teb_rules.specs.declared.names.Request.{Request}
use Rattle.teb_rules.specs.declared.names.naming.NameBook.{NameBook}
use Rattle.script_text.specs.declared.Line.{Line}
use Rattle.script_text.specs.declared.error.ScriptError.{ScriptError}
use Rattle.script_text.specs.declared.error.LineWhy.{LineWhy}
use Rattle.script_text.specs.declared.error.LineWhy.TheVariants as why
use Rattle.script_text.specs.Lines.{lines_of}
use Rattle.script_text.specs.Words.{words_of}
use Rattle.script_text.specs.Numbers.{number_upto, number_from_one}
use Rattle.script_text.specs.Grammar.{◌>>=◌, at_line, session_at, after_session, line_in, line_of, script_from, script_of, Answers}
use Rattle.script_text.specs.Sessions.{AreOfSessions}

abbrev IsSession : ℕ → Type 0
IsSession n = (0 < n) × (n ≤ SESSIONS)

bind_ok : {A B E : Type 0} (r : Result A E) (f : A → Result B E) (y : B) → (r >>= f) ≡ Ok y → (x : A) × (r ≡ Ok x) × (f x ≡ Ok y)
bind_ok (Ok x) f y e = (x, refl, e)
bind_ok (Err w) f y e = absurd (cc)

line_ok : {A : Type 0} (n : ℕ) (r : Result A LineWhy) (x : A) → at_line n r ≡ Ok x → r ≡ Ok x
line_ok n (Ok y) x e = let z : y ≡ x = cc in ap Ok z
line_ok n (Err w) x e = absurd (cc)

digits_upto : (b : Bool) (v m n : ℕ) → (if b then Some v else None) ≡ Some n → (b ≡ true → v ≤ m) → n ≤ m
digits_upto true v m n e h = let z : v ≡ n = cc in omega (arith, h refl)
digits_upto false v m n e h = absurd (cc)

upto : (w : List ℕ) (m n : ℕ) → number_upto m w ≡ Some n → n ≤ m
unfolding number_upto
upto w m n e = digits_upto _ (digits_value 10 w) m n e (λ h. leb-true (digits_value 10 w) m (and_parts _ _ h).1)

from_one : (o : Option ℕ) (m n : ℕ) → option_and_then (λ (k : ℕ). if k == 0 then None else Some k) o ≡ Some n → ((k : ℕ) → o ≡ Some k → k ≤ m) → (0 < n) × (n ≤ m)
from_one None m n e h = absurd (cc)
from_one (Some k) m n e h = go (k == 0) refl e (h k refl)
  where
    go : (b : Bool) → (k == 0) ≡ b → (if b then None else Some k) ≡ Some n → k ≤ m → (0 < n) × (n ≤ m)
    go true q f l = absurd (cc)
    go false q f l = let z : k ≡ n = cc in let ne = eqb-false k 0 q in (omega (arith, ne), omega arith)

session_ok : (w : List ℕ) (s : Session) → session_at w ≡ Ok s → IsSession s.0
unfolding number_from_one
session_ok w s e = go (number_from_one SESSIONS w) refl e
  where
    go : (o : Option ℕ) → number_from_one SESSIONS w ≡ o → (ok_or o why.Session >>= (λ (n : ℕ). Ok (record { 0 = n }))) ≡ Ok s → IsSession s.0
    go None q f = absurd (cc)
    go (Some n) q f = let z : n ≡ s.0 = (let k : record { 0 = n } ≡ s = cc in ap (λ (x : Session). x.0) k) in let y = from_one (number_upto SESSIONS w) SESSIONS n q (λ k h. upto w SESSIONS k h) in
        (omega arith, omega arith)

module _ (names : NameBook) (format : ℕ) where
  line_session : (n : ℕ) (ws : List (List ℕ)) (l : Line) → line_in names format n ws ≡ Ok (Some l) → IsSession l.session.0
  unfolding line_in
  line_session n [] l e = absurd (let z : None ≡ Some l = cc in cc)
  line_session n (w ∷ ws) l e = go (slice_index w 0 == 35) e
    where
      go : (b : Bool) → (if b then Ok None else (session_at w >>= (λ s. after_session names format ws >>= (λ r. Ok (Some (record { number = n; session = s; request = r })))))) ≡ Ok (Some l)
          → IsSession l.session.0
      go true f = absurd (let z : None ≡ Some l = cc in cc)
      go false f =
          let a = bind_ok (session_at w) (λ (s : Session). after_session names format ws >>= (λ r. Ok (Some (record { number = n; session = s; request = r })))) (Some l) f in
          let b = bind_ok (after_session names format ws) (λ (r : Request). Ok (Some (record { number = n; session = a.0; request = r }))) (Some l) a.2 in
          let k : record { number = n; session = a.0; request = b.0 } ≡ l = cc in
          let s : a.0 ≡ l.session = ap (λ (x : Line). x.session) k in
          subst (λ (x : Session). IsSession x.0) s (session_ok w a.0 a.1)

  one_more : (o : Option Line) (more : List Line) → ((l : Line) → o ≡ Some l → IsSession l.session.0) → AreOfSessions more → AreOfSessions (option_to_list o ++ more)
  one_more None more f h = h
  one_more (Some l) more f h = ((f l refl).0, (f l refl).1, h)

  pub script_sessions : (n : ℕ) (ls : List (List ℕ)) (lines : List Line) → script_from names format n ls ≡ Ok lines → AreOfSessions lines
  unfolding script_from line_of
  script_sessions n [] lines e = let z : [] ≡ lines = cc in subst AreOfSessions z tt
  script_sessions n (l ∷ ls) lines e =
      let rest = λ (o : Option Line). script_from names format (n + 1) ls >>= (λ (more : List Line). Ok (option_to_list o ++ more)) in
      let a = bind_ok (at_line n (line_of names format n l)) rest lines e in
      let b = bind_ok (script_from names format (n + 1) ls) (λ (more : List Line). Ok (option_to_list a.0 ++ more)) lines a.2 in
      let z : option_to_list a.0 ++ b.0 ≡ lines = cc in
      let q = line_ok n (line_of names format n l) a.0 a.1 in
      subst AreOfSessions z (one_more a.0 b.0 (λ k h. line_session n (words_of l) k (q ∙ ap Ok h)) (script_sessions (n + 1) ls b.0 b.1))

  few_more : (o : Option Line) (more : List Line) → length (option_to_list o ++ more) ≤ suc (length more)
  few_more None more = omega arith
  few_more (Some l) more = omega arith

  -- a script has at most as many requests as lines
  pub script_few : (n : ℕ) (ls : List (List ℕ)) (lines : List Line) → script_from names format n ls ≡ Ok lines → length lines ≤ length ls
  unfolding script_from
  script_few n [] lines e = let z : [] ≡ lines = cc in omega (arith, ap length z)
  script_few n (l ∷ ls) lines e =
      let rest = λ (o : Option Line). script_from names format (n + 1) ls >>= (λ (more : List Line). Ok (option_to_list o ++ more)) in
      let a = bind_ok (at_line n (line_of names format n l)) rest lines e in
      let b = bind_ok (script_from names format (n + 1) ls) (λ (more : List Line). Ok (option_to_list a.0 ++ more)) lines a.2 in
      let z : option_to_list a.0 ++ b.0 ≡ lines = cc in
      omega (arith, ap length z, few_more a.0 b.0, script_few (n + 1) ls b.0 b.1)

-- the lines that are returned belong to these sessions
pub answered_sessions : (names : NameBook) (format : ℕ) (text : List ℕ) (r : Result (Vec Line Global) ScriptError) → Answers r (script_of names format text) → IfOk r (λ v. AreOfSessions v.items)
answered_sessions names format text (Ok v) answers = script_sessions names format 1 (lines_of text) v.items answers
answered_sessions names format text (Err e) answers = tt
