-- Runs and walks, extended by one entry.
use Rattle.std.proofs.Common.{◌≡◌, List, [], ◌∷◌, ◌++◌, Some, refl, sym, ◌∙◌, ap, ap₂}
use Rattle.teb_rules.specs.declared.history.Event.{Event}
use Rattle.teb_rules.specs.declared.names.Entry.{Entry}
use Rattle.teb_rules.specs.declared.names.Reply.{Reply}
use Rattle.teb_rules.specs.declared.names.Request.{Request}
use Rattle.teb_rules.specs.declared.names.Session.{Session}
use Rattle.teb_rules.specs.Answer.{answer}
use Rattle.teb_rules.specs.Run.{IsLegal, history_after, history_of, replies_from, replies_of, requests_of}
use Rattle.teb_rules.specs.Setup.{Store}
use Rattle.teb_rules.specs.Scripts.{IsWay, ScriptState, WayFrom, after_answer, asks, at_first, next, state_after}

-- the history after two lists of requests, one after the other
pub history_after-append : (X : Store) (H : List Event) (xs ys : List (Session × Request)) → history_after X H (xs ++ ys) ≡ history_after X (history_after X H xs) ys
unfolding history_after
history_after-append X H [] ys = refl
history_after-append X H (x ∷ xs) ys = history_after-append X (answer X H x.0 x.1).1 xs ys

pub replies_from-append : (X : Store) (H : List Event) (xs ys : List (Session × Request)) → replies_from X H (xs ++ ys) ≡ replies_from X H xs ++ replies_from X (history_after X H xs) ys
unfolding history_after replies_from
replies_from-append X H [] ys = refl
replies_from-append X H (x ∷ xs) ys = ap (λ (rs : List Reply). (answer X H x.0 x.1).0 ∷ rs) (replies_from-append X (answer X H x.0 x.1).1 xs ys)

requests-append : (E F : List Entry) → requests_of (E ++ F) ≡ requests_of E ++ requests_of F
requests-append [] F = refl
requests-append (e ∷ E) F = ap (λ (rs : List (Session × Request)). (e.session, e.request) ∷ rs) (requests-append E F)

replies-append : (E F : List Entry) → replies_of (E ++ F) ≡ replies_of E ++ replies_of F
replies-append [] F = refl
replies-append (e ∷ E) F = ap (λ (rs : List Reply). e.reply ∷ rs) (replies-append E F)

-- the history after one more entry
pub history_push : (X : Store) (E : List Entry) (e : Entry) → history_of X (E ++ e ∷ []) ≡ (answer X (history_of X E) e.session e.request).1
history_push X E e = ap (history_after X []) (requests-append E (e ∷ [])) ∙ history_after-append X [] (requests_of E) ((e.session, e.request) ∷ []) ∙ unfold history_after in refl

one_reply : (X : Store) (H : List Event) (a : Session × Request) → replies_from X H (a ∷ []) ≡ (answer X H a.0 a.1).0 ∷ []
unfolding replies_from
one_reply X H a = refl

-- a legal list stays legal with the answer to one more request
pub legal_push : (X : Store) (E : List Entry) (e : Entry) → IsLegal X E → e.reply ≡ (answer X (history_of X E) e.session e.request).0 → IsLegal X (E ++ e ∷ [])
legal_push X E e l a =
    replies-append E (e ∷ []) ∙ ap₂ (λ (xs ys : List Reply). xs ++ ys) l (ap (λ (r : Reply). r ∷ []) a ∙ sym (one_reply X (history_of X E) (e.session, e.request)))
    ∙ sym (ap (replies_from X []) (requests-append E (e ∷ [])) ∙ replies_from-append X [] (requests_of E) ((e.session, e.request) ∷ []))

-- the state of a script after one more answer
pub state_push : (p : ScriptState) (bs : List Reply) (a : Reply) → state_after p (bs ++ a ∷ []) ≡ after_answer (state_after p bs) a
unfolding state_after
state_push p [] a = refl
state_push p (b ∷ bs) a = state_push (after_answer p b) bs a

way_from_push : (p : ScriptState) (E : List Entry) (e : Entry) → WayFrom p E → asks (state_after p (replies_of E)) ≡ Some e.request → WayFrom p (E ++ e ∷ [])
unfolding WayFrom state_after
way_from_push p [] e w q = (q, tt)
way_from_push p (d ∷ E) e w q = (w.0, way_from_push (after_answer p d.reply) E e w.1 q)

-- a way stays one with what the script asks next
pub way_push : (script : List Request) (E : List Entry) (e : Entry) → IsWay script E → next script (replies_of E) ≡ Some e.request → IsWay script (E ++ e ∷ [])
unfolding next
way_push script E e w q = way_from_push (at_first script) E e w q
