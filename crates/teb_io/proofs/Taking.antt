-- What was read from a source, and what was written to a sink, piece by piece.
use Rattle.std.proofs.Common.{◌≡◌, ℕ, ◌+◌, ◌≤◌, List, ◌++◌, length, take, drop, Option, None, Some, sym, ap, ◌∙◌, append_assoc, arith, length-append, length-drop, take-append-drop}
use Rattle.std.proofs.Math.Seq.{take-add, drop-append_seam}
use Rattle.std.proofs.lemmas.List.{drop-drop, take_at, length-take-le}
use Rattle.std.specs.Io.KnownBytes.{Appends, Consumes}
use Rattle.teb_io.specs.Bytes.{Takes, TakesUpTo}

-- the bytes that were consumed are the first of those that were left
pub taken : (a b : Option (List ℕ)) (bs : List ℕ) → Consumes a b bs → Takes a b (length bs)
taken None b bs p = tt
taken (Some xs) None bs p = p
taken (Some xs) (Some ys) bs p = (omega (arith, ap length p, length-append bs ys), rw p (sym (drop-append_seam bs ys)))

pub taken_up_to : (n : ℕ) (a b : Option (List ℕ)) (bs : List ℕ) → Consumes a b bs → length bs ≤ n → TakesUpTo n a b
taken_up_to n a b bs p within = (length bs, within, taken a b bs p)

-- one more piece is written
pub appends_more : (a b c : Option (List ℕ)) (text : List ℕ) (at n : ℕ) → Appends a b (take at text) → Appends b c (take n (drop at text)) → Appends a c (take (at + n) text)
appends_more None b c text at n p q = tt
appends_more (Some x) None c text at n p q = absurd p
appends_more (Some x) (Some y) None text at n p q = absurd q
appends_more (Some x) (Some y) (Some z) text at n p q =
    q ∙ ap (λ l. l ++ take n (drop at text)) p ∙ append_assoc x (take at text) (take n (drop at text)) ∙ ap (λ l. x ++ l) (sym (take-add at n text))

-- a read copies the front of what was left to the front of its buffer
pub read_front : (left b new rest : List ℕ) (at n m : ℕ) → left ≡ drop at b → new ≡ take m (drop at b) → m ≡ n → at + n ≤ length b → left ≡ take n (new ++ rest) ++ drop (at + n) b
read_front left b new rest at n m is given same within =
    let copied : new ≡ take n (drop at b) = given ∙ ap (λ k. take k (drop at b)) same in
    let long : length new ≡ n = ap length copied ∙ length-take-le n (drop at b) (omega (arith, length-drop at b)) in
    is ∙ sym (take-append-drop n (drop at b)) ∙ ap (λ l. l ++ drop n (drop at b)) (sym copied) ∙ ap (λ l. l ++ drop n (drop at b)) (sym (take_at new rest n long))
    ∙ ap (λ l. take n (new ++ rest) ++ l) (drop-drop n at b)
