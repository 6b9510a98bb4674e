-- What transactions that run serially leave in a table.
use Rattle.std.proofs.Common.{◌≡◌, ◌≢◌, ◌⊎◌, ℕ, Bool, true, false, cond, ◌&&◌, eqb, List, [], ◌∷◌, ◌++◌, Option, Some, None, refl, sym, append_assoc, ◌∙◌, ap, subst, inl, inr, ℤ}
use Rattle.teb_rules.specs.declared.names.Cell.{Cell}
use Rattle.teb_rules.specs.declared.history.Event.{Event}
use Rattle.teb_rules.specs.declared.history.Event.TheVariants.{Began, Got, Put, Ready, Done, Gone, Told}
use Rattle.teb_rules.specs.history.Accesses.{last_put}
use Rattle.teb_rules.specs.names.Cells.{same_cell}
use Rattle.teb_rules.specs.Replay.{Values, put_in, after_puts, table_after, GotsRight, ReplaysRight}
use Rattle.teb_rules.specs.Serializes.{In}
use Rattle.teb_rules.proofs.lemmas.laws.Lists.{IsStrict, Each, Sorted, In-append_left, In-append_right, In-append_cases, Pairs-front, Pairs-back, Pairs-across}
use Rattle.teb_rules.specs.Tree.{row}

-- the value of a writer, or else what was there
abbrev pub or_value : Option (Option ℤ) → Option ℤ → Option ℤ
or_value (Some v) o = v
or_value None o = o

put_step : (a b : Bool) (v : Option ℤ) (r : Option (Option ℤ)) (o : Option ℤ) → cond a (cond b v (or_value r o)) (or_value r o) ≡ or_value (cond (a && b) (Some v) r) o
put_step true true v r o = refl
put_step true false v r o = refl
put_step false true v r o = refl
put_step false false v r o = refl

at_cond : (b : Bool) (f g : Values) (x : Cell) → cond b f g x ≡ cond b (f x) (g x)
at_cond true f g x = refl
at_cond false f g x = refl

pub after_puts_at : (H : List Event) (t : ℕ) (T : Values) (x : Cell) → after_puts H t T x ≡ or_value (last_put H t x) (T x)
unfolding after_puts last_put
after_puts_at [] t T x = refl
after_puts_at (Put u y v ∷ P) t T x =
    at_cond (eqb u.0 t) (put_in y v (after_puts P t T)) (after_puts P t T) x
    ∙ rw (after_puts_at P t T x) (put_step (eqb u.0 t) (same_cell y x) v (last_put P t x) (T x))
after_puts_at (Began u s k inst ∷ P) t T x = after_puts_at P t T x
after_puts_at (Got u y w v ∷ P) t T x = after_puts_at P t T x
after_puts_at (Ready u ∷ P) t T x = after_puts_at P t T x
after_puts_at (Done u ∷ P) t T x = after_puts_at P t T x
after_puts_at (Gone u c ∷ P) t T x = after_puts_at P t T x
after_puts_at (Told u ∷ P) t T x = after_puts_at P t T x

-- the last value of x that the transactions of a list leave, else d
unfoldable pub left_by : (ℕ → Option (Option ℤ)) → List ℕ → Option ℤ → Option ℤ
left_by g [] d = d
left_by g (t ∷ ts) d = left_by g ts (or_value (g t) d)

pub table_after_at : (H : List Event) (ts : List ℕ) (T : Values) (x : Cell) → table_after H ts T x ≡ left_by (λ t. last_put H t x) ts (T x)
unfolding table_after left_by
table_after_at H [] T x = refl
table_after_at H (t ∷ ts) T x = table_after_at H ts (after_puts H t T) x ∙ ap (left_by (λ t. last_put H t x) ts) (after_puts_at H t T x)

-- if no transaction of the list has a value, d stays
pub left_by_none : (g : ℕ → Option (Option ℤ)) (ts : List ℕ) (d : Option ℤ) → Each (λ t. g t ≡ None) ts → left_by g ts d ≡ d
unfolding left_by
left_by_none g [] d h = refl
left_by_none g (t ∷ ts) d h = left_by_none g ts (or_value (g t) d) (λ u i. h u (inr i)) ∙ ap (λ (o : Option (Option ℤ)). or_value o d) (h t (inl refl))

-- if each other writer of the list is before w, w's value is left
pub left_by_last : (lt : ℕ → ℕ → Bool) (P : ℕ → Type 0) → IsStrict lt P → (g : ℕ → Option (Option ℤ)) (ts : List ℕ) (d : Option ℤ) (w : ℕ) (v : Option ℤ) →
    Each P ts → Sorted lt ts → In w ts → g w ≡ Some v → Each (λ t. (g t ≡ None) ⊎ ((t ≡ w) ⊎ (lt t w ≡ true))) ts → left_by g ts d ≡ v
unfolding left_by
left_by_last lt P s g [] d w v ps h i e c = absurd i
left_by_last lt P s g (t ∷ ts) d w v ps h i e c = elim i [
  | inl p ↦ left_by_none g ts (or_value (g t) d) (λ u j. elim (c u (inr j)) [
    | inl n ↦ n
    | inr k ↦ elim k [
      | inl q ↦ absurd (let n = s.irreflexive t (ps t (inl refl)) in let b = h.0 u j in cc)
      | inr q ↦ absurd (let n = s.asymmetric t u (ps t (inl refl)) (ps u (inr j)) (h.0 u j) in cc)
    ]
  ])
      ∙ ap (λ (o : Option (Option ℤ)). or_value o d) (ap g p ∙ e)
  | inr j ↦ left_by_last lt P s g ts (or_value (g t) d) w v (λ u k. ps u (inr k)) h.1 j e (λ u k. c u (inr k))
]

pub left_by_push : (g : ℕ → Option (Option ℤ)) (ts : List ℕ) (t : ℕ) (d : Option ℤ) → left_by g (ts ++ t ∷ []) d ≡ or_value (g t) (left_by g ts d)
unfolding left_by
left_by_push g [] t d = refl
left_by_push g (u ∷ ts) t d = left_by_push g ts t (or_value (g u) d)

-- What a Got of t on x with the value v needs, where P is the history before it: v is t's own last value; or no transaction before t put x;
-- or it is the final value of a w before t, and every other writer is before w or after t.
pub record FromRow (C : ℕ → Type 0) (lt : ℕ → ℕ → Bool) (g : ℕ → Option (Option ℤ)) (t : ℕ) (row v : Option ℤ) : Type 0 where
  pub value : v ≡ row
  pub others : (b : ℕ) → C b → b ≢ t → (g b ≡ None) ⊎ (lt t b ≡ true)

pub record FromWriter (C : ℕ → Type 0) (lt : ℕ → ℕ → Bool) (g : ℕ → Option (Option ℤ)) (t : ℕ) (v : Option ℤ) : Type 0 where
  pub writer : ℕ
  pub number : Option ℤ
  pub is_in : C writer
  pub wrote : g writer ≡ Some number
  pub value : v ≡ number
  pub before : lt writer t ≡ true
  pub others : (b : ℕ) → C b → b ≢ t → ((g b ≡ None) ⊎ ((b ≡ writer) ⊎ (lt b writer ≡ true))) ⊎ (lt t b ≡ true)

abbrev pub ReadWell : (ℕ → Type 0) → (ℕ → ℕ → Bool) → (ℕ → Option (Option ℤ)) → ℕ → Option ℤ → Option (Option ℤ) → Option ℤ → Type 0
ReadWell C lt g t row own v = (own ≡ Some v) ⊎ ((own ≡ None) × (FromRow C lt g t row v ⊎ FromWriter C lt g t v))

-- each Got of t in P, a part of the history H, has what it needs
abbrev pub AllReadWell : (ℕ → Type 0) → (ℕ → ℕ → Bool) → List Event → Values → ℕ → List Event → Type 0
AllReadWell C lt H T t [] = Unit {0}
AllReadWell C lt H T t (Got u x w v ∷ P) = (eqb u.0 t ≡ true → ReadWell C lt (λ b. last_put H b x) t (T x) (last_put P t x) v) × AllReadWell C lt H T t P
AllReadWell C lt H T t (_ ∷ P) = AllReadWell C lt H T t P

-- after the transactions before t, x has the value that t read
read_right : (C : ℕ → Type 0) (lt : ℕ → ℕ → Bool) → IsStrict lt C → (g : ℕ → Option (Option ℤ)) (ts us : List ℕ) (t : ℕ) (row : Option ℤ) (own : Option (Option ℤ)) (v : Option ℤ) →
    Each C (ts ++ t ∷ us) → ((b : ℕ) → C b → In b (ts ++ t ∷ us)) → Sorted lt (ts ++ t ∷ us) → ReadWell C lt g t row own v → v ≡ or_value own (left_by g ts row)
read_right C lt s g ts us t row own v ps all h r = elim r [
  | inl o ↦ ap (λ (z : Option (Option ℤ)). or_value z (left_by g ts row)) (sym o)
  | inr o ↦ subst (λ (z : Option (Option ℤ)). v ≡ or_value z (left_by g ts row)) (sym o.0) (elim o.1 [
    | inl f ↦ f.value ∙ sym (left_by_none g ts row (λ b i. elim (f.others b (inC b i) (λ q. ne b i q)) [ inl n ↦ n | inr k ↦ absurd (no b i k) ]))
    | inr f ↦ f.value ∙ sym (left_by_last lt C s g ts row f.writer f.number inC (Pairs-front (λ x y. lt x y ≡ true) ts (t ∷ us) h) (found f.writer f.is_in f.before) f.wrote
        (λ b i. elim (f.others b (inC b i) (λ q. ne b i q)) [ inl n ↦ n | inr k ↦ absurd (no b i k) ]))
  ])
]
  where
    inC : Each C ts
    inC b i = ps b (In-append_left b ts (t ∷ us) i)

    tC : C t
    tC = ps t (In-append_right t ts (t ∷ us) (inl refl))

    lower : (b : ℕ) → In b ts → lt b t ≡ true
    lower b i = Pairs-across (λ x y. lt x y ≡ true) ts (t ∷ us) b t h i (inl refl)

    no : (b : ℕ) → In b ts → lt t b ≡ true → ⊥
    no b i k = let n = s.asymmetric t b tC (inC b i) k in let l = lower b i in cc

    ne : (b : ℕ) → In b ts → b ≡ t → ⊥
    ne b i q = let n = s.irreflexive t tC in let l = lower b i in cc

    found : (w : ℕ) → C w → lt w t ≡ true → In w ts
    found w c e = elim (In-append_cases w ts (t ∷ us) (all w c)) [
      | inl i ↦ i
      | inr j ↦ elim j [
        | inl q ↦ absurd (let n = s.irreflexive t tC in cc)
        | inr k ↦ absurd (let a = (Pairs-back (λ x y. lt x y ≡ true) ts (t ∷ us) h).0 w k in let n = s.asymmetric t w tC c a in cc)
      ]
    ]

-- the Gots of t in P, a part of H, are right after ts
gots_right : (C : ℕ → Type 0) (lt : ℕ → ℕ → Bool) → IsStrict lt C → (H P : List Event) (T now : Values) (ts us : List ℕ) (t : ℕ) →
    Each C (ts ++ t ∷ us) → ((b : ℕ) → C b → In b (ts ++ t ∷ us)) → Sorted lt (ts ++ t ∷ us) →
    ((x : Cell) → now x ≡ left_by (λ b. last_put H b x) ts (T x)) → AllReadWell C lt H T t P → GotsRight P t now
unfolding GotsRight
gots_right C lt s H [] T now ts us t ps all h e r = tt
gots_right C lt s H (Got u x w v ∷ P) T now ts us t ps all h e r = (
  (λ i. read_right C lt s (λ b. last_put H b x) ts us t (T x) (last_put P t x) v ps all h (r.0 i)
      ∙ sym (after_puts_at P t now x ∙ ap (or_value (last_put P t x)) (e x))),
  gots_right C lt s H P T now ts us t ps all h e r.1,
)
gots_right C lt s H (Began u k l inst ∷ P) T now ts us t ps all h e r = gots_right C lt s H P T now ts us t ps all h e r
gots_right C lt s H (Put u x v ∷ P) T now ts us t ps all h e r = gots_right C lt s H P T now ts us t ps all h e r
gots_right C lt s H (Ready u ∷ P) T now ts us t ps all h e r = gots_right C lt s H P T now ts us t ps all h e r
gots_right C lt s H (Done u ∷ P) T now ts us t ps all h e r = gots_right C lt s H P T now ts us t ps all h e r
gots_right C lt s H (Gone u c ∷ P) T now ts us t ps all h e r = gots_right C lt s H P T now ts us t ps all h e r
gots_right C lt s H (Told u ∷ P) T now ts us t ps all h e r = gots_right C lt s H P T now ts us t ps all h e r

-- every read of the transactions us is right, after ts
replays_right : (C : ℕ → Type 0) (lt : ℕ → ℕ → Bool) → IsStrict lt C → (H : List Event) (T now : Values) (ts us : List ℕ) →
    Each C (ts ++ us) → ((b : ℕ) → C b → In b (ts ++ us)) → Sorted lt (ts ++ us) →
    ((x : Cell) → now x ≡ left_by (λ b. last_put H b x) ts (T x)) → ((t : ℕ) → C t → AllReadWell C lt H T t H) → ReplaysRight H us now
unfolding ReplaysRight
replays_right C lt s H T now ts [] ps all h e r = tt
replays_right C lt s H T now ts (t ∷ us) ps all h e r = (
  gots_right C lt s H H T now ts us t ps all h e (r t (ps t (In-append_right t ts (t ∷ us) (inl refl)))),
  replays_right C lt s H T (after_puts H t now) (ts ++ t ∷ []) us
      (rw (append_assoc ts (t ∷ []) us) ps) (rw (append_assoc ts (t ∷ []) us) all) (rw (append_assoc ts (t ∷ []) us) h)
      (λ x. after_puts_at H t now x ∙ ap (or_value (last_put H t x)) (e x) ∙ sym (left_by_push (λ b. last_put H b x) ts t (T x))) r,
)

-- a list that is sorted by lt and has all of C replays every read
pub replays : (C : ℕ → Type 0) (lt : ℕ → ℕ → Bool) → IsStrict lt C → (H : List Event) (T : Values) (us : List ℕ) →
    Each C us → ((b : ℕ) → C b → In b us) → Sorted lt us → ((t : ℕ) → C t → AllReadWell C lt H T t H) → ReplaysRight H us T
unfolding left_by
replays C lt s H T us ps all h r = replays_right C lt s H T T [] us ps all h (λ x. refl) r

-- the list leaves in x the version of the w that follows all other writers, or the row if there is no writer
pub left_last : (C : ℕ → Type 0) (lt : ℕ → ℕ → Bool) → IsStrict lt C → (H : List Event) (T : Values) (us : List ℕ) (x : Cell) (w : ℕ) (v : Option ℤ) →
    Each C us → ((b : ℕ) → C b → In b us) → Sorted lt us → C w → last_put H w x ≡ Some v →
    ((b : ℕ) → C b → (last_put H b x ≡ None) ⊎ ((b ≡ w) ⊎ (lt b w ≡ true))) → table_after H us T x ≡ v
left_last C lt s H T us x w v ps all h c e f = table_after_at H us T x ∙ left_by_last lt C s (λ b. last_put H b x) us (T x) w v ps h (all w c) e (λ b i. f b (ps b i))

pub left_row : (C : ℕ → Type 0) (H : List Event) (T : Values) (us : List ℕ) (x : Cell) → Each C us →
    ((b : ℕ) → C b → last_put H b x ≡ None) → table_after H us T x ≡ T x
left_row C H T us x ps f = table_after_at H us T x ∙ left_by_none (λ b. last_put H b x) us (T x) (λ b i. f b (ps b i))
