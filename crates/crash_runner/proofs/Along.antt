-- Runs on a disk along a list of requests.
use Rattle.std.proofs.Common.{◌≡◌, ◌<◌, ◌≤◌, ◌+◌, ℕ, zero, suc, List, [], ◌∷◌, ◌++◌, length, map, take, drop, get_or, refl, sym, ◌∙◌, ap, ap₂, subst, append_assoc, arith}
use Rattle.std.proofs.lemmas.List.{append-nil, take_more, map_push}
use Rattle.teb_rules.specs.declared.names.Session.{Session}
use Rattle.teb_rules.specs.declared.names.Request.{Request}
use Rattle.teb_rules.specs.declared.names.Request.TheVariants.{Begin, Read, Write, Add, Delete, Scan, Prepare, Commit, Abort, End}
use Rattle.teb_rules.specs.declared.history.Event.{Event}
use Rattle.teb_rules.specs.Setup.{Store}
use Rattle.teb_rules.specs.Answer.{answer}
use Rattle.teb_rules.specs.Run.{history_after, ends_of}
use Rattle.crash_disk.specs.Calls.{Promise, Tally}
use Rattle.script_text.specs.declared.Line.{Line}
use Rattle.script_text.specs.declared.Answered.{Answered}
use Rattle.script_runner.specs.replay.Logs.{Requests, log_of, requests_of, replayed}
use Rattle.script_runner.proofs.lemmas.replay.Logged.{log_append, history_append, history_none, history_step}
use Rattle.crash_runner.specs.Underway.{HasAsked, StopsAt, weight}

pub asked_none : (X : Store) (log : List Answered) (H : List Event) → HasAsked X [] log H log H
asked_none X log H = record { replies = sym (append-nil log); events = sym (history_none X H) }

pub asked_one : (X : Store) (s : Session) (r : Request) (log now : List Answered) (H K : List Event) → now ≡ log ++ record { session = s; reply = (answer X H s r).0 } ∷ [] → K ≡ (answer X H s r).1
    → HasAsked X ((s, r) ∷ []) log H now K
asked_one X s r log now H K replies events = record { replies = replies; events = events ∙ sym (history_step X H (s, r) [] ∙ history_none X (answer X H s r).1) }

pub asked_then : (X : Store) (xs ys : Requests) (log mid now : List Answered) (H K L : List Event) → HasAsked X xs log H mid K → HasAsked X ys mid K now L → HasAsked X (xs ++ ys) log H now L
asked_then X xs ys log mid now H K L one two = record {
  replies = two.replies ∙ ap₂ (λ (w : List Answered) (J : List Event). w ++ log_of X J ys) one.replies one.events
      ∙ append_assoc log (log_of X H xs) (log_of X (history_after X H xs) ys)
      ∙ ap (λ (w : List Answered). log ++ w) (sym (log_append X H xs ys));
  events = two.events ∙ ap (λ (J : List Event). history_after X J ys) one.events ∙ sym (history_append X H xs ys);
}

-- a run that stops within the later requests stops within all of them
pub stops_behind : (p : Promise) (X : Store) (xs ys all : Requests) (log mid given : List Answered) (H K : List Event) (t : Tally) (safe : List ℕ) → all ≡ xs ++ ys → HasAsked X xs log H mid K
    → StopsAt p X (mid ++ log_of X K ys) (history_after X K ys) given t safe → StopsAt p X (log ++ log_of X H all) (history_after X H all) given t safe
stops_behind p X xs ys all log mid given H K t safe is one stops =
    let whole = asked_then X xs ys log mid (mid ++ log_of X K ys) H K (history_after X K ys) one (record { replies = refl; events = refl }) in
    subst (λ (rs : Requests). StopsAt p X (log ++ log_of X H rs) (history_after X H rs) given t safe) (sym is)
    (subst (λ (J : List Event). StopsAt p X (log ++ log_of X H (xs ++ ys)) J given t safe) whole.events
    (subst (λ (w : List Answered). StopsAt p X w (history_after X K ys) given t safe) whole.replies stops))

-- ---- a list, up to one of its elements

pub split_at : {A B : Type 0} (f : A → B) (xs : List A) (i : ℕ) (d : A) (rest : List B) → i < length xs → map f xs ++ rest ≡ map f (take i xs) ++ f (get_or xs i d) ∷ (map f (drop (i + 1) xs) ++ rest)
split_at f [] i d rest lt = absurd (omega arith)
split_at f (x ∷ xs) zero d rest lt = refl
split_at {B = B} f (x ∷ xs) (suc i) d rest lt =
    let is : suc i + 1 ≡ suc (i + 1) = omega arith in
    rw is (ap (λ (w : List B). f x ∷ w) (split_at f xs i d rest (omega arith)))

pub more_of : {A B : Type 0} (f : A → B) (xs : List A) (i : ℕ) (d : A) → i < length xs → map f (take (i + 1) xs) ≡ map f (take i xs) ++ f (get_or xs i d) ∷ []
more_of f xs i d lt = ap (map f) (take_more xs i d lt) ∙ map_push f (take i xs) (get_or xs i d)

module _ {A : Type 0} (f : A → Session × Request) (xs : List A) (i : ℕ) (d : A) (lt : i < length xs) (a : Session × Request) (is : a ≡ f (get_or xs i d)) (X Y : Store) (same : Y ≡ X)
    (log mid : List Answered) (H K : List Event) (so_far : HasAsked X (map f (take i xs)) log H mid K) where
  -- one more request was answered
  pub one_more : (now : List Answered) (L : List Event) → HasAsked Y (a ∷ []) mid K now L → HasAsked X (map f (take (i + 1) xs)) log H now L
  one_more now L one =
      let here : HasAsked X (f (get_or xs i d) ∷ []) mid K now L = subst (λ (b : Session × Request). HasAsked X (b ∷ []) mid K now L) is
      (subst (λ (Z : Store). HasAsked Z (a ∷ []) mid K now L) same one) in
      subst (λ (rs : Requests). HasAsked X rs log H now L) (sym (more_of f xs i d lt)) (asked_then X (map f (take i xs)) (f (get_or xs i d) ∷ []) log mid now H K L so_far here)

  -- the run stopped at this request
  pub stopped_at : (p q : Promise) (rest : Requests) (given : List Answered) (t : Tally) (safe : List ℕ) → q ≡ p → StopsAt q Y (mid ++ log_of Y K (a ∷ (map f (drop (i + 1) xs) ++ rest)))
      (history_after Y K (a ∷ (map f (drop (i + 1) xs) ++ rest))) given t safe
      → StopsAt p X (log ++ log_of X H (map f xs ++ rest)) (history_after X H (map f xs ++ rest)) given t safe
  stopped_at p q rest given t safe promised stops =
      let behind = map f (drop (i + 1) xs) ++ rest in
      let of_p = subst (λ (o : Promise). StopsAt o Y (mid ++ log_of Y K (a ∷ behind)) (history_after Y K (a ∷ behind)) given t safe) promised stops in
      let of_x = subst (λ (Z : Store). StopsAt p Z (mid ++ log_of Z K (a ∷ behind)) (history_after Z K (a ∷ behind)) given t safe) same of_p in
      let here = subst (λ (b : Session × Request). StopsAt p X (mid ++ log_of X K (b ∷ behind)) (history_after X K (b ∷ behind)) given t safe) is of_x in
      stops_behind p X (map f (take i xs)) (f (get_or xs i d) ∷ behind) (map f xs ++ rest) log mid given H K t safe (split_at f xs i d rest lt) so_far here

-- ---- the lines, then the Ends

module _ (X : Store) (lines : List Line) (mid : List Answered) (K : List Event) (asked : HasAsked X (requests_of lines) [] [] mid K) where
  ends : ends_of K ≡ ends_of (history_after X [] (requests_of lines))
  ends = ap ends_of asked.events

  pub whole_asked : (now : List Answered) (L : List Event) → HasAsked X (ends_of K) mid K now L → HasAsked X (replayed X [] lines) [] [] now L
  whole_asked now L two = subst (λ (es : Requests). HasAsked X (requests_of lines ++ es) [] [] now L) ends (asked_then X (requests_of lines) (ends_of K) [] mid now [] K L asked two)

  pub whole_stops : (p : Promise) (given : List Answered) (t : Tally) (safe : List ℕ) → StopsAt p X (mid ++ log_of X K (ends_of K)) (history_after X K (ends_of K)) given t safe
      → StopsAt p X (log_of X [] (replayed X [] lines)) (history_after X [] (replayed X [] lines)) given t safe
  whole_stops p given t safe stops = stops_behind p X (requests_of lines) (ends_of K) (replayed X [] lines) [] mid given [] K t safe (ap (λ (es : Requests). requests_of lines ++ es) (sym ends)) asked
      stops

pub light : (r : Request) → weight r ≤ 1
light (Begin k) = omega arith
light (Read x) = omega arith
light (Write x v) = omega arith
light (Add x v) = omega arith
light (Delete x) = omega arith
light (Scan x n) = omega arith
light Prepare = omega arith
light Commit = omega arith
light Abort = omega arith
light End = omega arith
