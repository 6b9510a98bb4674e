-- The calls of a session in a list.
use Rattle.std.proofs.Common.{◌≡◌, ◌≢◌, ℕ, suc, cond, if◌then◌else◌, Bool, true, false, ◌&&◌, ◌==◌, List, [], ◌∷◌, ◌++◌, Option, All, append-nil, refl, sym, ◌∙◌, ap, subst, arith, eq-eqb, ne_eqb}
use Rattle.std.proofs.lemmas.Bool.{eqb-true}
use Rattle.std.proofs.lemmas.List.Elements.{filter-append}
use Rattle.teb_rules.specs.declared.names.Session.{Session}
use Rattle.teb_rules.specs.declared.names.Request.{Request}
use Rattle.short_reply.specs.declared.ShortReply.{ShortReply}
use Rattle.turn_lock.specs.Counts.{times, same}
use Rattle.turn_lock.proofs.Lists.{All_map}
use Rattle.shared_store.specs.declared.entry.LifeEntry.{LifeEntry}
use Rattle.shared_store.specs.declared.entry.LifeEntry.TheVariants.{Asked, CommitsTaken, EpochEnded, LogFailed}
use Rattle.shared_store.specs.Lives.{IsForOther, calls_of, is_call_of, owner_of}

pub calls_append : (n : ℕ) (xs ys : List LifeEntry) → calls_of n (xs ++ ys) ≡ calls_of n xs ++ calls_of n ys
calls_append n xs ys = filter-append (is_call_of n) xs ys

pub calls_none : (n : ℕ) (es : List LifeEntry) → All (λ (e : LifeEntry). is_call_of n e ≡ false) es → calls_of n es ≡ []
calls_none n [] a = refl
calls_none n (e ∷ es) a = ap (λ b. cond b (e ∷ calls_of n es) (calls_of n es)) (a 0 e (omega arith)) ∙ calls_none n es (λ k d l. a (suc k) d (omega arith))

-- entries for other sessions are not calls of the session
pub for_others_none : (n : ℕ) (es : List LifeEntry) → All (IsForOther n) es → calls_of n es ≡ []
for_others_none n es a = calls_none n es (All_map (IsForOther n) (λ (e : LifeEntry). is_call_of n e ≡ false) es (λ e m. m.1) a)

is_other : (n o : ℕ) → times o (n ∷ []) ≡ 0 → o ≢ n
is_other n o z is = let one : same o n ≡ 1 = ap (λ b. if b then 1 else 0) (eq-eqb o n is) in absurd (omega arith)

no_call : (n : ℕ) (e : LifeEntry) → owner_of e ≢ n → is_call_of n e ≡ false
no_call n (Asked by s q r) o = ap (λ (b : Bool). b && (s.0 == n)) (ne_eqb by.0 n o)
no_call n CommitsTaken o = refl
no_call n EpochEnded o = refl
no_call n LogFailed o = refl

all_others : (n : ℕ) (es : List LifeEntry) → All (λ (e : LifeEntry). times (owner_of e) (n ∷ []) ≡ 0) es → All (λ (e : LifeEntry). is_call_of n e ≡ false) es
all_others n es a = All_map (λ (e : LifeEntry). times (owner_of e) (n ∷ []) ≡ 0) (λ (e : LifeEntry). is_call_of n e ≡ false) es (λ e z. no_call n e (is_other n (owner_of e) z)) a

-- entries of other owners are not calls of the session
pub others_none : (n : ℕ) (os : List ℕ) (es more : List LifeEntry) → os ≡ n ∷ [] → All (λ (e : LifeEntry). times (owner_of e) os ≡ 0) more → calls_of n (es ++ more) ≡ calls_of n es
others_none n os es more o a = calls_append n es more
    ∙ (ap (λ (l : List LifeEntry). calls_of n es ++ l) (calls_none n more (all_others n more (subst (λ (ys : List ℕ). All (λ (e : LifeEntry). times (owner_of e) ys ≡ 0) more) o a)))
    ∙ append-nil (calls_of n es))

-- a request that a session makes for itself is a call of the session
pub own_call : (s : Session) (q : Request) (r : Option ShortReply) → is_call_of s.0 (Asked s s q r) ≡ true
own_call s q r = ap (λ (b : Bool). b && b) (eq-eqb s.0 s.0 refl)

and_no : (b : Bool) → b && false ≡ false
and_no true = refl
and_no false = refl

-- a request that a session makes for another session is an entry for another
pub for_other : (by s : Session) (q : Request) (r : Option ShortReply) → s.0 ≢ by.0 → IsForOther by.0 (Asked by s q r)
for_other by s q r o = (refl, ap (λ (b : Bool). (by.0 == by.0) && b) (ne_eqb s.0 by.0 o) ∙ and_no (by.0 == by.0))

-- the calls in a list of one call
pub one_call : (s : Session) (q : Request) (r : Option ShortReply) → calls_of s.0 (Asked s s q r ∷ []) ≡ Asked s s q r ∷ []
one_call s q r = let e : LifeEntry = Asked s s q r in ap (λ b. cond b (e ∷ []) []) (own_call s q r)

-- what is asked for another session is a call of none
pub none_calls : (by s : Session) (q : Request) (r : Option ShortReply) (n : ℕ) → s.0 ≢ by.0 → calls_of n (Asked by s q r ∷ []) ≡ []
none_calls by s q r n o = let e : LifeEntry = Asked by s q r in ap (λ b. cond b (e ∷ []) []) (no_one (by.0 == n) refl)
  where
    no_one : (b : Bool) → by.0 == n ≡ b → is_call_of n (Asked by s q r) ≡ false
    no_one false z = ap (λ (c : Bool). c && (s.0 == n)) z
    no_one true z = ap (λ (c : Bool). (by.0 == n) && c) (ne_eqb s.0 n (λ w. o (w ∙ sym (eqb-true by.0 n z)))) ∙ and_no (by.0 == n)
