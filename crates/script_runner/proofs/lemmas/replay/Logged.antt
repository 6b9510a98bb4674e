-- Logs of lists of requests, in sequence.
use Rattle.std.proofs.Common.{◌≡◌, ℕ, ◌+◌, ◌<◌, List, [], ◌∷◌, ◌++◌, length, map, drop, get_or, append_assoc, refl, sym, ap, ap₂, ◌∙◌, subst}
use Rattle.std.proofs.lemmas.List.{append-nil, drop_more}
use Rattle.teb_rules.specs.declared.names.naming.NameBook.{NameBook}
use Rattle.teb_rules.specs.declared.names.Session.{Session}
use Rattle.teb_rules.specs.declared.names.Request.{Request}
use Rattle.teb_rules.specs.declared.history.Event.{Event}
use Rattle.teb_rules.specs.Setup.{Store}
use Rattle.teb_rules.specs.Answer.{answer}
use Rattle.teb_rules.specs.Run.{history_after, ends_of}
use Rattle.script_text.specs.declared.Line.{Line}
use Rattle.script_text.specs.declared.Answered.{Answered}
use Rattle.teb_rules.proofs.lemmas.laws.Runs.{history_after-append}
use Rattle.script_runner.specs.replay.Logs.{Requests, log_of, requests_of, replayed}

pub log_append : (X : Store) (H : List Event) (xs ys : Requests) → log_of X H (xs ++ ys) ≡ log_of X H xs ++ log_of X (history_after X H xs) ys
unfolding history_after
log_append X H [] ys = refl
log_append X H (x ∷ xs) ys = ap (λ (w : List Answered). record { session = x.0; reply = (answer X H x.0 x.1).0 } ∷ w) (log_append X (answer X H x.0 x.1).1 xs ys)

-- the history after requests, in a form that computes
abbrev pub after : Store → List Event → Requests → List Event
after X H [] = H
after X H (x ∷ xs) = after X (answer X H x.0 x.1).1 xs

pub history_is : (X : Store) (H : List Event) (xs : Requests) → history_after X H xs ≡ after X H xs
unfolding history_after
history_is X H [] = refl
history_is X H (x ∷ xs) = history_is X (answer X H x.0 x.1).1 xs

pub history_step : (X : Store) (H : List Event) (x : Session × Request) (xs : Requests) → history_after X H (x ∷ xs) ≡ history_after X (answer X H x.0 x.1).1 xs
unfolding history_after
history_step X H x xs = refl

pub history_none : (X : Store) (H : List Event) → history_after X H [] ≡ H
unfolding history_after
history_none X H = refl

pub history_append : (X : Store) (H : List Event) (xs ys : Requests) → history_after X H (xs ++ ys) ≡ history_after X (history_after X H xs) ys
history_append = history_after-append

-- some answers are told, and together with the rest they are all
pub record HasFront (Tells : List Answered → Type 0) (rest all : List Answered) : Type 0 where
  pub answers : List Answered
  pub told : Tells answers
  pub joined : answers ++ rest ≡ all

-- some requests are asked, and then those after them
module _ (asked behind all : Requests) (is : all ≡ asked ++ behind) (X Y : Store) (H K : List Event) (same : Y ≡ X) (on : K ≡ history_after X H asked) where
  pub part_after : after Y K behind ≡ after X H all
  part_after = ap₂ (λ (Z : Store) (J : List Event). after Z J behind) same on ∙ sym (history_is X (history_after X H asked) behind)
      ∙ sym (history_append X H asked behind) ∙ history_is X H (asked ++ behind) ∙ ap (λ (w : Requests). after X H w) (sym is)

  -- their answers are told after the others
  pub part_told : (Tells Then : NameBook → List Answered → Type 0) (m n : NameBook) (answers : List Answered) → m ≡ n
      → ((told : List Answered) → Tells m told → Then m (told ++ log_of X H asked))
      → HasFront (Tells n) (log_of X H all) answers → HasFront (Then n) (log_of Y K behind) answers
  part_told Tells Then m n answers e next front =
      let more = log_of X H asked in
      record {
        answers = front.answers ++ more;
        told = subst (λ (b : NameBook). Then b (front.answers ++ more)) e (next front.answers (subst (λ (b : NameBook). Tells b front.answers) (sym e) front.told));
        joined = ap₂ (λ (Z : Store) (J : List Event). (front.answers ++ more) ++ log_of Z J behind) same on
            ∙ append_assoc front.answers more (log_of X (history_after X H asked) behind) ∙ ap (λ (w : List Answered). front.answers ++ w) (sym (log_append X H asked behind))
            ∙ ap (λ (w : Requests). front.answers ++ log_of X H w) (sym is) ∙ front.joined;
      }

-- one of some requests is asked, and then those after it
module _ {A : Type 0} (f : A → Session × Request) (xs : List A) (i : ℕ) (d : A) (within : i < length xs) (s : Session) (q : Request) (is : (s, q) ≡ f (get_or xs i d)) (X Y : Store) (H K : List Event)
    (same : Y ≡ X) (on : K ≡ (answer X H s q).1) where
  left : map f (drop i xs) ≡ (s, q) ∷ map f (drop (i + 1) xs)
  left = ap (map f) (drop_more xs i d within) ∙ ap (λ (r : Session × Request). r ∷ map f (drop (i + 1) xs)) (sym is)

  one_on : K ≡ history_after X H ((s, q) ∷ [])
  one_on = on ∙ sym (history_step X H (s, q) [] ∙ history_none X (answer X H s q).1)

  pub one_after : after Y K (map f (drop (i + 1) xs)) ≡ after X H (map f (drop i xs))
  one_after = part_after ((s, q) ∷ []) (map f (drop (i + 1) xs)) (map f (drop i xs)) left X Y H K same one_on

  -- its answer is told after the others
  pub one_told : (Tells Then : NameBook → List Answered → Type 0) (m n : NameBook) (all : List Answered) → m ≡ n
      → ((told : List Answered) → Tells m told → Then m (told ++ record { session = s; reply = (answer X H s q).0 } ∷ []))
      → HasFront (Tells n) (log_of X H (map f (drop i xs))) all → HasFront (Then n) (log_of Y K (map f (drop (i + 1) xs))) all
  one_told = part_told ((s, q) ∷ []) (map f (drop (i + 1) xs)) (map f (drop i xs)) left X Y H K same one_on

-- no request is left
pub all_told : (Tells : List Answered → Type 0) (X : Store) (H : List Event) (rs : Requests) (all : List Answered) → rs ≡ [] → HasFront Tells (log_of X H rs) all → Tells all
all_told Tells X H rs all e f = subst Tells (sym (append-nil f.answers) ∙ ap (λ (w : Requests). f.answers ++ log_of X H w) (sym e) ∙ f.joined) f.told

-- the log of a script, followed by that of the Ends
pub replay_log : (X Y : Store) (H G : List Event) (lines : List Line) (old mid new : List Answered) → Y ≡ X → G ≡ history_after X H (requests_of lines)
    → mid ≡ old ++ log_of X H (requests_of lines) → new ≡ mid ++ log_of Y G (ends_of G) → new ≡ old ++ log_of X H (replayed X H lines)
replay_log X Y H G lines old mid new s e m n =
    let ends = ends_of (history_after X H (requests_of lines)) in
    n ∙ ap₂ (λ (w v : List Answered). w ++ v) m (ap₂ (λ (Z : Store) (J : List Event). log_of Z J (ends_of J)) s e)
    ∙ append_assoc old (log_of X H (requests_of lines)) (log_of X (history_after X H (requests_of lines)) ends)
    ∙ ap (λ (w : List Answered). old ++ w) (sym (log_append X H (requests_of lines) ends))
