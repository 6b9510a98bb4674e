-- The transactions of an order, run one after the other by their lines.
use Rattle.std.proofs.Common.{◌≡◌, ℕ, zero, suc, ◌+◌, ◌-◌, ◌<◌, ◌≤◌, ◌==◌, Bool, true, false, not, ◌||◌, if◌then◌else◌, List, []}
use Rattle.std.proofs.Common.{◌∷◌, ◌++◌, length, take, drop, replicate, get_or, Option, refl, ap, sym, subst, ◌∙◌, arith, inl, inr}
use Rattle.std.specs.Prelude.{ℤ, Vec}
use Rattle.std.specs.declared.alloc.Global.{Global}
use Rattle.std.proofs.lemmas.Bool.{cases_Bool, cases_eq, and_parts, false_from_ne_true, both_ways, not-true}
use Rattle.std.proofs.lemmas.Bool.Decides.{nat_tests}
use Rattle.std.proofs.lemmas.List.Folds.{list_any_at}
use Rattle.std.proofs.lemmas.List.{take_more, take_all, drop_more, drop_all, length-take-le, get_or_default}
use Rattle.audit_check.specs.Items.{Item}
use Rattle.audit_check.specs.Items.Item.{Start, Began, Got, Put, Ready, Done, Gone, Told, Order, Row, End as EndItem}
use Rattle.audit_check.specs.Faults.{is_among, are_distinct, is_misread, wrong_read}
use Rattle.audit_check.specs.Tables.{Values, after_puts, table_after, table_before, before, starts_in, order_in}
use Rattle.audit_check.specs.Keeps.{is_own, own_from, after_line, misread_now, misread_or, misread_by, HoldsTable, StepsLine, RunsTo, Replays}
use Rattle.audit_check.specs.Marks.{is_marked, list_at}
use Rattle.audit_check.specs.Views.{views, line_view}
use Rattle.audit_check.specs.declared.line.RowKey.{RowKey as Key}
use Rattle.audit_check.specs.declared.line.Line.{Line}
use Rattle.audit_check.specs.declared.line.Line.TheVariants.{End}
use Rattle.audit_check.specs.declared.line.Line.TheVariants as line
use Rattle.audit_check.proofs.Cells.{views_push}
use Rattle.audit_check.proofs.FirstLines.{views_next}
use Rattle.audit_check.proofs.OrderRules.{among_more}

-- the lines of one transaction
own_more : (t n k : ℕ) (ls : List Line) (l : Line) → k ≡ n + length ls → own_from t n (ls ++ l ∷ []) ≡ (if is_own t (line_view l) then own_from t n ls ++ k ∷ [] else own_from t n ls)
unfolding own_from
own_more t n k [] l e = let same : n ≡ k = omega (arith, e) in ap (λ m. if is_own t (line_view l) then m ∷ [] else []) same
own_more t n k (x ∷ xs) l e = rw (own_more t (n + 1) k xs l (omega (arith, e))) (both (is_own t (line_view x)) (is_own t (line_view l)) (own_from t (n + 1) xs))
  where
    both : (a b : Bool) (ys : List ℕ) → (if a then n ∷ (if b then ys ++ k ∷ [] else ys) else (if b then ys ++ k ∷ [] else ys)) ≡ (if b then (if a then n ∷ ys else ys)
        ++ k ∷ [] else (if a then n ∷ ys else ys))
    both true true ys = refl
    both true false ys = refl
    both false true ys = refl
    both false false ys = refl

pub no_own : (t : ℕ) (own : List (Vec ℕ Global)) → own ≡ [] → list_at own t ≡ own_from t 0 []
unfolding own_from
no_own t own is = rw is

pub own_line : (t i : ℕ) (lines : List Line) (l : Line) → i < length lines → l ≡ get_or lines i l
    → own_from t 0 (take (i + 1) lines) ≡ (if is_own t (line_view l) then own_from t 0 (take i lines) ++ i ∷ [] else own_from t 0 (take i lines))
own_line t i lines l within is =
    ap (own_from t 0) (take_more lines i l within ∙ ap (λ x. take i lines ++ x ∷ []) (sym is))
    ∙ own_more t 0 i (take i lines) l (omega (arith, length-take-le i lines (omega (arith, within))))

module _ (t : ℕ) (lines : List Line) where
  abbrev line_at : ℕ → Item
  line_at n = line_view (get_or lines n End)

  own_here : (n : ℕ) → n < length lines → is_own t (line_at n) ≡ true → own_from t n (drop n lines) ≡ n ∷ own_from t (n + 1) (drop (n + 1) lines)
  unfolding own_from
  own_here n within own = rw (drop_more lines n End within, own)

  own_gone : (n : ℕ) → n < length lines → is_own t (line_at n) ≡ false → own_from t n (drop n lines) ≡ own_from t (n + 1) (drop (n + 1) lines)
  unfolding own_from
  own_gone n within other = rw (drop_more lines n End within, other)

  own_none : (n : ℕ) → length lines ≤ n → own_from t n (drop n lines) ≡ []
  unfolding own_from
  own_none n over = rw (drop_all n lines over)

  module _ (P : ℕ → Type 0) (skip : (n : ℕ) → n < length lines → is_own t (line_at n) ≡ false → P n → P (n + 1)) where
    -- the next line of t
    abbrev pub IsNext : ℕ → List ℕ → Type 0
    IsNext i rest = (i < length lines) × (is_own t (line_at i) ≡ true) × (own_from t (i + 1) (drop (i + 1) lines) ≡ rest) × P i

    pub to_next : (k n i : ℕ) (rest : List ℕ) → n + k ≡ length lines → own_from t n (drop n lines) ≡ i ∷ rest → P n → IsNext i rest
    to_next zero n i rest e own p = let none = own_none n (omega (arith, e)) in absurd (cc)
    to_next (suc k) n i rest e own p =
        let within : n < length lines = omega (arith, e) in
        elim (cases_Bool (is_own t (line_at n))) [
          | inl here ↦
              let first = own_here n within here in
              let same : n ≡ i = cc in
              let later : own_from t (n + 1) (drop (n + 1) lines) ≡ rest = cc in
              subst (λ j. IsNext j rest) same (within, here, later, p)
          | inr other ↦ to_next k (n + 1) i rest (omega (arith, e)) (sym (own_gone n within other) ∙ own) (skip n within other p)
        ]

    pub to_end : (k n : ℕ) → n + k ≡ length lines → own_from t n (drop n lines) ≡ [] → P n → P (length lines)
    to_end zero n e own p = let all : n ≡ length lines = omega (arith, e) in subst P all p
    to_end (suc k) n e own p =
        let within : n < length lines = omega (arith, e) in
        elim (cases_Bool (is_own t (line_at n))) [
          | inl here ↦ let first = own_here n within here in absurd (cc)
          | inr other ↦ to_end k (n + 1) (omega (arith, e)) (sym (own_gone n within other) ∙ own) (skip n within other p)
        ]

  next_item : (n : ℕ) → n < length lines → views (take (n + 1) lines) ≡ line_at n ∷ views (take n lines)
  next_item n within = ap views (take_more lines n End within) ∙ views_push (take n lines) (get_or lines n End)

-- a line of another transaction changes nothing
puts_other : (t : ℕ) (T : Values) (past : List Item) (i : Item) → is_own t i ≡ false → after_puts (i ∷ past) t T ≡ after_puts past t T
unfolding after_puts
puts_other t T past (Put u x v) h = rw h
puts_other t T past (Got u x w v) h = refl
puts_other t T past (Start x v) h = refl
puts_other t T past (Began u) h = refl
puts_other t T past (Ready u) h = refl
puts_other t T past (Done u) h = refl
puts_other t T past (Gone u) h = refl
puts_other t T past (Told u) h = refl
puts_other t T past (Order ts) h = refl
puts_other t T past (Row x v) h = refl
puts_other t T past EndItem h = refl

misread_other : (b : Bool) (t : ℕ) (T : Values) (past : List Item) (i : Item) → is_own t i ≡ false → misread_or b past T t i ≡ b
misread_other b t T past (Put u x v) h = refl
misread_other b t T past (Got u x w v) h = rw h
misread_other b t T past (Start x v) h = refl
misread_other b t T past (Began u) h = refl
misread_other b t T past (Ready u) h = refl
misread_other b t T past (Done u) h = refl
misread_other b t T past (Gone u) h = refl
misread_other b t T past (Told u) h = refl
misread_other b t T past (Order ts) h = refl
misread_other b t T past (Row x v) h = refl
misread_other b t T past EndItem h = refl

-- a line of the transaction itself
puts_own : (t : ℕ) (T : Values) (past : List Item) (i : Item) → is_own t i ≡ true → after_puts (i ∷ past) t T ≡ after_line i (after_puts past t T)
unfolding after_puts
puts_own t T past (Put u x v) h = rw h
puts_own t T past (Got u x w v) h = refl
puts_own t T past (Start x v) h = refl
puts_own t T past (Began u) h = refl
puts_own t T past (Ready u) h = refl
puts_own t T past (Done u) h = refl
puts_own t T past (Gone u) h = refl
puts_own t T past (Told u) h = refl
puts_own t T past (Order ts) h = refl
puts_own t T past (Row x v) h = refl
puts_own t T past EndItem h = refl

misread_own : (b : Bool) (t : ℕ) (T : Values) (past : List Item) (i : Item) → is_own t i ≡ true → misread_or b past T t i ≡ misread_now b (after_puts past t T) i
misread_own b t T past (Put u x v) h = refl
misread_own b t T past (Got u x w v) h = rw h
misread_own b t T past (Start x v) h = refl
misread_own b t T past (Began u) h = refl
misread_own b t T past (Ready u) h = refl
misread_own b t T past (Done u) h = refl
misread_own b t T past (Gone u) h = refl
misread_own b t T past (Told u) h = refl
misread_own b t T past (Order ts) h = refl
misread_own b t T past (Row x v) h = refl
misread_own b t T past EndItem h = refl

along : (entries : List (Key × Option ℤ)) (T U : Values) → T ≡ U → HoldsTable entries T → HoldsTable entries U
along entries T U e h = subst (λ (V : Values). HoldsTable entries V) e h

module _ (t : ℕ) (lines : List Line) (T : Values) (wrong : List Bool) where
  no_puts : T ≡ after_puts (views []) t T
  unfolding after_puts
  no_puts = refl

  pub runs_none : (entries : List (Key × Option ℤ)) → HoldsTable entries T → RunsTo 0 t lines T wrong entries wrong
  runs_none entries h = record { table = along entries T (after_puts (views []) t T) no_puts h; told = λ i below. absurd (omega (arith, below)); rest = λ i above. refl }

  pub runs_skip : (n : ℕ) (entries : List (Key × Option ℤ)) (wrong' : List Bool) → n < length lines → is_own t (line_view (get_or lines n End)) ≡ false
      → RunsTo n t lines T wrong entries wrong' → RunsTo (n + 1) t lines T wrong entries wrong'
  runs_skip n entries wrong' within other r =
      let past = views (take n lines) in
      let item = line_view (get_or lines n End) in
      record {
        table = along entries (after_puts past t T) (after_puts (views (take (n + 1) lines)) t T)
            (sym (ap (λ (is : List Item). after_puts is t T) (next_item t lines n within) ∙ puts_other t T past item other)) r.table;
        told = λ i below. elim (cases_eq i n) [
          | inl same ↦ subst (λ j. is_marked wrong' j ≡ misread_or (is_marked wrong j) (views (take j lines)) T t (line_view (get_or lines j End))) (sym same)
              (r.rest n (omega arith) ∙ sym (misread_other (is_marked wrong n) t T past item other))
          | inr apart ↦ r.told i (omega (arith, below, apart))
        ];
        rest = λ i above. r.rest i (omega (arith, above));
      }

  pub runs_line : (n : ℕ) (entries entries' : List (Key × Option ℤ)) (wrong' wrong'' : List Bool) → n < length lines → is_own t (line_view (get_or lines n End)) ≡ true
      → RunsTo n t lines T wrong entries wrong' → StepsLine (after_puts (views (take n lines)) t T) (line_view (get_or lines n End)) n wrong' entries' wrong''
      → RunsTo (n + 1) t lines T wrong entries' wrong''
  runs_line n entries entries' wrong' wrong'' within own r s =
      let past = views (take n lines) in
      let item = line_view (get_or lines n End) in
      let here : is_marked wrong'' n ≡ misread_now (is_marked wrong' n) (after_puts past t T) item = s.told n ∙ at n (misread_now (is_marked wrong' n) (after_puts past t T) item)
      (is_marked wrong' n) in
      record {
        table = along entries' (after_line item (after_puts past t T)) (after_puts (views (take (n + 1) lines)) t T)
            (sym (ap (λ (is : List Item). after_puts is t T) (next_item t lines n within) ∙ puts_own t T past item own)) s.table;
        told = λ i below. elim (cases_eq i n) [
          | inl same ↦ subst (λ j. is_marked wrong'' j ≡ misread_or (is_marked wrong j) (views (take j lines)) T t (line_view (get_or lines j End))) (sym same)
              (here ∙ ap (λ b. misread_now b (after_puts past t T) item) (r.rest n (omega arith)) ∙ sym (misread_own (is_marked wrong n) t T past item own))
          | inr apart ↦ s.told i ∙ off i apart (misread_now (is_marked wrong' i) (after_puts past t T) item) (is_marked wrong' i) ∙ r.told i (omega (arith, below, apart))
        ];
        rest = λ i above. s.told i ∙ off i (λ same. omega (arith, above, same)) (misread_now (is_marked wrong' i) (after_puts past t T) item) (is_marked wrong' i) ∙ r.rest i (omega (arith, above));
      }
    where
      at : (m : ℕ) (a b : Bool) → (if m == m then a else b) ≡ a
      at m a b = let same : (m == m) ≡ true = grind (arith, nat_tests) in rw same

      off : (i : ℕ) → (i ≡ n → ⊥) → (a b : Bool) → (if i == n then a else b) ≡ b
      off i apart a b = let other : (i == n) ≡ false = grind (arith, nat_tests) in rw other

-- the lines of one transaction, one after the other
module _ (t : ℕ) (lines : List Line) (items : List ℕ) (to k : ℕ) (within : to ≤ length lines) (own : own_from t to (drop to lines) ≡ drop k items) where
  pub next_within : k < length items → get_or items k 0 < length lines
  next_within more = (to_next t lines (λ _. Unit {0}) (λ n h o p. tt) (length lines - to) to (get_or items k 0) (drop (k + 1) items) (omega (arith, within)) (own ∙ drop_more items k 0 more) tt).0

  module _ (entries0 entries : List (Key × Option ℤ)) (wrong0 wrong : List Bool) (runs : (T : Values) → HoldsTable entries0 T → RunsTo to t lines T wrong0 entries wrong) where
    abbrev RunsAt : ℕ → Type 0
    RunsAt n = (T : Values) → HoldsTable entries0 T → RunsTo n t lines T wrong0 entries wrong

    skipped : (n : ℕ) → n < length lines → is_own t (line_view (get_or lines n End)) ≡ false → RunsAt n → RunsAt (n + 1)
    skipped n h o r T held = runs_skip t lines T wrong0 n entries wrong h o (r T held)

    pub run_over : length items ≤ k → (T : Values) → HoldsTable entries0 T → RunsTo (length lines) t lines T wrong0 entries wrong
    run_over over = to_end t lines RunsAt skipped (length lines - to) to (omega (arith, within)) (own ∙ drop_all k items over) runs

    pub run_more : (entries' : List (Key × Option ℤ)) (wrong' : List Bool) (l : Line) → k < length items → l ≡ get_or lines (get_or items k 0) l
        → ((T : Values) → HoldsTable entries T → StepsLine T (line_view l) (get_or items k 0) wrong entries' wrong')
        → (get_or items k 0 + 1 ≤ length lines) × (own_from t (get_or items k 0 + 1) (drop (get_or items k 0 + 1) lines) ≡ drop (k + 1) items)
        × ((T : Values) → HoldsTable entries0 T → RunsTo (get_or items k 0 + 1) t lines T wrong0 entries' wrong')
    run_more entries' wrong' l more is steps =
        let i = get_or items k 0 in
        let (low, mine, rest, at) = to_next t lines RunsAt skipped (length lines - to) to i (drop (k + 1) items) (omega (arith, within)) (own ∙ drop_more items k 0 more) runs in
        let same : l ≡ get_or lines i End = is ∙ get_or_default lines i l End low in (
          omega (arith, low),
          rest,
          λ T held.
              let r = at T held in
              runs_line t lines T wrong0 i entries entries' wrong wrong' low mine r
              (subst (λ (x : Line). StepsLine (after_puts (views (take i lines)) t T) (line_view x) i wrong entries' wrong') same (steps (after_puts (views (take i lines)) t T) r.table)),
        )

-- the order line is found from the last line on
order_other : (l : Line) (past : List Item) → ((ts : Vec ℕ Global) → l ≡ line.Order ts → ⊥) → order_in (line_view l ∷ past) ≡ order_in past
unfolding order_in
order_other (line.Order ts) past unlike = absurd (unlike ts refl)
order_other (line.Start p v) past unlike = refl
order_other (line.Began t) past unlike = refl
order_other (line.Got t p u v) past unlike = refl
order_other (line.Put t p v) past unlike = refl
order_other (line.Ready t) past unlike = refl
order_other (line.Done t) past unlike = refl
order_other (line.Gone t) past unlike = refl
order_other (line.Told t) past unlike = refl
order_other (line.Row p v) past unlike = refl
order_other line.End past unlike = refl

order_first : (ts : List ℕ) (past : List Item) → order_in (Order ts ∷ past) ≡ ts
unfolding order_in
order_first ts past = refl

module _ (lines : List Line) (n k : ℕ) (l : Line) (within : n < length lines) (is : l ≡ get_or lines n l) (next : k ≡ n + 1) where
  front : views (take k lines) ≡ line_view l ∷ views (take n lines)
  front = ap (λ m. views (take m lines)) next ∙ views_next lines n l within is

  pub order_here : (ts : Vec ℕ Global) → l ≡ line.Order ts → order_in (views (take k lines)) ≡ ts.items
  order_here ts e = ap order_in (front ∙ ap (λ (x : Line). line_view x ∷ views (take n lines)) e) ∙ order_first ts.items (views (take n lines))

  pub order_gone : ((ts : Vec ℕ Global) → l ≡ line.Order ts → ⊥) → order_in (views (take k lines)) ≡ order_in (views (take n lines))
  order_gone unlike = ap order_in front ∙ order_other l (views (take n lines)) unlike

pub no_order : (lines : List Line) (k : ℕ) → k ≡ 0 → order_in (views (take k lines)) ≡ []
unfolding order_in
no_order lines k none = ap (λ m. order_in (views (take m lines))) none

-- at first no line is marked as wrong
pub none_marked : (n i : ℕ) → is_marked (replicate n false) i ≡ false
none_marked zero i = refl
none_marked (suc n) zero = refl
none_marked (suc n) (suc i) = none_marked n i

-- the order, one transaction after the other
before_at : (ts : List ℕ) (j : ℕ) → are_distinct ts ≡ true → j < length ts → before (get_or ts j 0) ts ≡ take j ts
unfolding before
before_at [] j once within = absurd (omega (arith, within))
before_at (x ∷ xs) zero once within = let same : (x == x) ≡ true = grind (arith, nat_tests) in rw same
before_at (x ∷ xs) (suc j) once within =
    let (new, more) = and_parts (not (is_among xs x)) (are_distinct xs) once in
    let apart : (x == get_or xs j 0) ≡ false = false_from_ne_true (x == get_or xs j 0) (λ e. both_ways (is_among xs x) (not-true (is_among xs x) new)
    (list_any_at (λ s. s == x) xs j 0 (omega (arith, within)) (grind (arith, nat_tests, e)))) in
    rw apart (ap (λ (l : List ℕ). x ∷ l) (before_at xs j more (omega (arith, within))))

pub table_more : (H : List Item) (ts : List ℕ) (t : ℕ) (T : Values) → table_after H (ts ++ t ∷ []) T ≡ after_puts H t (table_after H ts T)
unfolding table_after
table_more H [] t T = refl
table_more H (s ∷ ss) t T = table_more H ss t (after_puts H s T)

-- one more transaction of the order has run
misread_more : (H : List Item) (ts us : List ℕ) (t : ℕ) (T : Values) (past : List Item) (i : Item) → T ≡ table_before H t → ((n : ℕ) → is_among us n ≡ (t == n || is_among ts n))
    → misread_or (misread_by H ts past i) past T t i ≡ misread_by H us past i
misread_more H ts us t T past (Got u x w v) e more = elim (cases_eq u t) [
  | inl same ↦
      let here : (u == t) ≡ true = grind (arith, nat_tests) in
      let there : (t == u) ≡ true = grind (arith, nat_tests) in
      rw (more u, here, there) (ap (λ (V : Values). is_misread past V t x v) e ∙ ap (λ n. is_misread past (table_before H n) n x v) (sym same))
  | inr apart ↦
      let here : (u == t) ≡ false = grind (arith, nat_tests) in
      let there : (t == u) ≡ false = grind (arith, nat_tests) in
      rw (more u, here, there)
]
misread_more H ts us t T past (Put u x v) e more = refl
misread_more H ts us t T past (Start x v) e more = refl
misread_more H ts us t T past (Began u) e more = refl
misread_more H ts us t T past (Ready u) e more = refl
misread_more H ts us t T past (Done u) e more = refl
misread_more H ts us t T past (Gone u) e more = refl
misread_more H ts us t T past (Told u) e more = refl
misread_more H ts us t T past (Order os) e more = refl
misread_more H ts us t T past (Row x v) e more = refl
misread_more H ts us t T past EndItem e more = refl

misread_none : (H past : List Item) (i : Item) → misread_by H [] past i ≡ false
misread_none H past (Got u x w v) = refl
misread_none H past (Put u x v) = refl
misread_none H past (Start x v) = refl
misread_none H past (Began u) = refl
misread_none H past (Ready u) = refl
misread_none H past (Done u) = refl
misread_none H past (Gone u) = refl
misread_none H past (Told u) = refl
misread_none H past (Order os) = refl
misread_none H past (Row x v) = refl
misread_none H past EndItem = refl

misread_all : (H past : List Item) (i : Item) → misread_by H (order_in H) past i ≡ wrong_read H past i
misread_all H past (Got u x w v) = refl
misread_all H past (Put u x v) = refl
misread_all H past (Start x v) = refl
misread_all H past (Began u) = refl
misread_all H past (Ready u) = refl
misread_all H past (Done u) = refl
misread_all H past (Gone u) = refl
misread_all H past (Told u) = refl
misread_all H past (Order os) = refl
misread_all H past (Row x v) = refl
misread_all H past EndItem = refl

module _ (lines : List Line) where
  no_txns : starts_in (views lines) ≡ table_after (views lines) [] (starts_in (views lines))
  unfolding table_after
  no_txns = refl

  pub replays_none : (entries : List (Key × Option ℤ)) (wrong : List Bool) → HoldsTable entries (starts_in (views lines)) → ((i : ℕ) → is_marked wrong i ≡ false) → Replays [] lines entries wrong
  replays_none entries wrong h none = record {
    table = along entries (starts_in (views lines)) (table_after (views lines) [] (starts_in (views lines))) no_txns h;
    told = λ i within. none i ∙ sym (misread_none (views lines) (views (take i lines)) (line_view (get_or lines i End)));
  }

  module _ (order : List ℕ) (is : order ≡ order_in (views lines)) (once : are_distinct (order_in (views lines)) ≡ true) (j t : ℕ) (within : j < length order) (at : t ≡ get_or order j 0) where
    pub table_at : Values
    table_at = table_after (views lines) (take j order) (starts_in (views lines))

    table_then : table_at ≡ table_before (views lines) t
    unfolding table_at
    table_then =
        let distinct : are_distinct order ≡ true = ap are_distinct is ∙ once in
        let front : before t (order_in (views lines)) ≡ take j order = ap (before t) (sym is) ∙ ap (λ n. before n order) at ∙ before_at order j distinct within in
        ap (λ (l : List ℕ). table_after (views lines) l (starts_in (views lines))) (sym front)

    pub holds_at : (entries : List (Key × Option ℤ)) (wrong : List Bool) → Replays (take j order) lines entries wrong → HoldsTable entries table_at
    unfolding table_at
    holds_at entries wrong r = r.table

    pub replays_more : (entries entries' : List (Key × Option ℤ)) (wrong wrong' : List Bool) → Replays (take j order) lines entries wrong
        → RunsTo (length lines) t lines table_at wrong entries' wrong' → Replays (take (j + 1) order) lines entries' wrong'
    unfolding table_at
    replays_more entries entries' wrong wrong' r run =
        let front : take (j + 1) order ≡ take j order ++ t ∷ [] = take_more order j 0 within ∙ ap (λ x. take j order ++ x ∷ []) (sym at) in
        let whole : take (length lines) lines ≡ lines = take_all (length lines) lines (omega arith) in
        record {
          table = along entries' (after_puts (views (take (length lines) lines)) t table_at) (table_after (views lines) (take (j + 1) order) (starts_in (views lines)))
              (ap (λ (ls : List Line). after_puts (views ls) t table_at) whole
              ∙ sym (ap (λ (l : List ℕ). table_after (views lines) l (starts_in (views lines))) front ∙ table_more (views lines) (take j order) t (starts_in (views lines))))
              run.table;
          told = λ i below.
              run.told i below
              ∙ ap (λ b. misread_or b (views (take i lines)) table_at t (line_view (get_or lines i End))) (r.told i below)
              ∙ misread_more (views lines) (take j order) (take (j + 1) order) t table_at (views (take i lines)) (line_view (get_or lines i End)) table_then
              (among_more (λ _. true) order j t within at);
        }

  pub told_all : (entries : List (Key × Option ℤ)) (wrong : List Bool) (i : ℕ) → Replays (order_in (views lines)) lines entries wrong → i < length lines
      → is_marked wrong i ≡ wrong_read (views lines) (views (take i lines)) (line_view (get_or lines i End))
  told_all entries wrong i r within = r.told i within ∙ misread_all (views lines) (views (take i lines)) (line_view (get_or lines i End))
