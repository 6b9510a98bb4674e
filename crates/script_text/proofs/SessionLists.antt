-- A list of lines for each session number.
use Rattle.std.proofs.Common.{◌≡◌, ◌≢◌, ℕ, zero, suc, ◌+◌, ◌<◌, ◌≤◌, ◌==◌, Bool, true, false, not, cond, if◌then◌else◌, List, [], ◌∷◌, ◌++◌, length}
use Rattle.std.proofs.Common.{map, filter, replicate, take, get_or, set, take, Vec, Some, option_map, slice_get, refl, sym, ap, ◌∙◌, arith, inl, inr}
use Rattle.std.specs.declared.alloc.Global.{Global}
use Rattle.std.specs.List.{range_with_len}
use Rattle.std.proofs.lemmas.Bool.{cases_eq}
use Rattle.std.proofs.lemmas.Bool.Decides.{nat_tests}
use Rattle.std.proofs.lemmas.List.{same_lists, get_or-set_same, get_or-set_other, length-set, length-map, length-replicate, get_or-replicate, get_or-map, map-set, append-nil, take_more}
use Rattle.std.proofs.lemmas.Option.{slice_get-map, slice_get_read}
use Rattle.std.proofs.lemmas.List.Elements.{filter-append}
use Rattle.std.proofs.lemmas.List.FromFn.{length-map-range_with_len, get_or-map-range_with_len, filter_of_map_range_with_len_more}
use Rattle.teb_rules.specs.declared.names.Session.{Session}
use Rattle.script_text.specs.declared.Line.{Line}
use Rattle.script_text.specs.Scripts.{session, session_numbers, lines_for, scripts_of}
use Rattle.script_text.specs.Lists.{lists_in, list_at, has_list, with_line, paired}

lines_for_push : (ls : List Line) (l : Line) (n : ℕ) → lines_for (ls ++ l ∷ []) n ≡ lines_for ls n ++ (if l.session.0 == n then l ∷ [] else [])
unfolding lines_for
lines_for_push ls l n = filter-append (λ l. l.session.0 == n) ls (l ∷ [])

own_line : (ls : List Line) (l : Line) (n : ℕ) → n ≡ l.session.0 → lines_for (ls ++ l ∷ []) n ≡ lines_for ls n ++ l ∷ []
own_line ls l n e = let yes : (l.session.0 == n) ≡ true = grind (arith, nat_tests) in lines_for_push ls l n ∙ rw yes

other_line : (ls : List Line) (l : Line) (n : ℕ) → n ≢ l.session.0 → lines_for (ls ++ l ∷ []) n ≡ lines_for ls n
other_line ls l n e = let no : (l.session.0 == n) ≡ false = grind (arith, nat_tests) in lines_for_push ls l n ∙ rw (no, append-nil (lines_for ls n))

map_filter : {A B : Type 0} (q : B → Bool) (f : A → B) (xs : List A) → map f (filter (λ x. q (f x)) xs) ≡ filter q (map f xs)
map_filter q f [] = refl
map_filter q f (x ∷ xs) = kept q f x (q (f x)) (filter (λ x. q (f x)) xs) ∙ ap (λ l. cond (q (f x)) (f x ∷ l) l) (map_filter q f xs)
  where
    kept : {A B : Type 0} (q : B → Bool) (f : A → B) (x : A) (b : Bool) (xs : List A) → map f (cond b (x ∷ xs) xs) ≡ cond b (f x ∷ map f xs) (map f xs)
    kept q f x true xs = refl
    kept q f x false xs = refl

module _ (count : ℕ) where
  abbrev all_for : List Line → List (List Line)
  all_for ls = map (lines_for ls) (range_with_len 0 count)

  long : (ls : List Line) → length (all_for ls) ≡ count
  long ls = length-map-range_with_len (lines_for ls) 0 count

  at : (ls : List Line) (n : ℕ) (d : List Line) → n < count → get_or (all_for ls) n d ≡ lines_for ls n
  at ls n d h = get_or-map-range_with_len (lines_for ls) 0 count n n d h (omega arith)

  no_line : (k : ℕ) (d : List Line) → k < count → get_or (replicate count []) k d ≡ get_or (all_for []) k d
  unfolding lines_for
  no_line k d h = get_or-replicate count k [] d h ∙ sym (at [] k d h)

  no_lines : replicate count [] ≡ all_for []
  no_lines = same_lists _ _ (length-replicate count [] ∙ sym (long [])) (λ k d h. no_line k d (omega (arith, length-replicate {A = List Line} count [], h)))

  set_at : (ls : List Line) (l : Line) (k : ℕ) (d : List Line) → k < count → get_or (with_line (all_for ls) l) k d ≡ lines_for (ls ++ l ∷ []) k
  set_at ls l k d h = elim (cases_eq k l.session.0) [
    | inl same ↦
        ap (λ i. get_or (with_line (all_for ls) l) i d) same
        ∙ get_or-set_same (all_for ls) l.session.0 (list_at (all_for ls) l.session.0 ++ l ∷ []) d (omega (arith, same, h, long ls))
        ∙ ap (λ x. x ++ l ∷ []) (at ls l.session.0 [] (omega (arith, same, h)))
        ∙ sym (own_line ls l l.session.0 refl) ∙ ap (lines_for (ls ++ l ∷ [])) (sym same)
    | inr other ↦
        get_or-set_other (all_for ls) l.session.0 k (list_at (all_for ls) l.session.0 ++ l ∷ []) d other
        ∙ at ls k d h ∙ sym (other_line ls l k other)
  ]

  one_line : (ls : List Line) (l : Line) → with_line (all_for ls) l ≡ all_for (ls ++ l ∷ [])
  one_line ls l =
      same_lists _ _ (length-set (all_for ls) l.session.0 (list_at (all_for ls) l.session.0 ++ l ∷ []) ∙ long ls ∙ sym (long (ls ++ l ∷ [])))
      (λ k d h.
      let within : k < count = omega (arith, h, length-set (all_for ls) l.session.0 (list_at (all_for ls) l.session.0 ++ l ∷ []), long ls) in
      set_at ls l k d within ∙ sym (at (ls ++ l ∷ []) k d within))

  pairs_from : (ls : List Line) (a m : ℕ) → a + m ≤ count → paired (map session (range_with_len a m)) (all_for ls) ≡ map (λ n. (session n, lines_for ls n)) (range_with_len a m)
  pairs_from ls a zero h = refl
  pairs_from ls a (suc m) h =
      rw (at ls a [] (omega (arith, h))) (ap (λ l. (session a, lines_for ls a) ∷ l) (pairs_from ls (a + 1) m (omega (arith, h))))

  pairs : (ls : List Line) → paired (map session (range_with_len 0 count)) (all_for ls) ≡ map (λ n. (session n, lines_for ls n)) (range_with_len 0 count)
  pairs ls = pairs_from ls 0 count (omega arith)

  scripts_for : (ls : List Line) → paired (filter (has_list (all_for ls)) (map session (range_with_len 0 count))) (all_for ls)
      ≡ filter (λ s. not (length s.1 == 0)) (map (λ n. (session n, lines_for ls n)) (range_with_len 0 count))
  scripts_for ls =
      map_filter (λ s. not (length s.1 == 0)) (λ s. (s, list_at (all_for ls) s.0)) (map session (range_with_len 0 count))
      ∙ ap (filter (λ s. not (length s.1 == 0))) (pairs ls)

-- the lists of all sessions
abbrev all_lists : List Line → List (List Line)
all_lists ls = map (lines_for ls) session_numbers

pub lists_none : replicate 256 [] ≡ all_lists []
unfolding session_numbers
lists_none = no_lines 256

lists_more : (ls : List Line) (l : Line) → with_line (all_lists ls) l ≡ all_lists (ls ++ l ∷ [])
unfolding session_numbers
lists_more ls l = one_line 256 ls l

pub lists_step : (lines : List Line) (i : ℕ) (d : Line) (lists new : List (List Line)) → i < length lines → lists ≡ all_lists (take i lines) → new ≡ with_line lists (get_or lines i d)
    → new ≡ all_lists (take (i + 1) lines)
lists_step lines i d lists new h so_far put =
    put ∙ ap (λ b. with_line b (get_or lines i d)) so_far ∙ lists_more (take i lines) (get_or lines i d) ∙ ap all_lists (sym (take_more lines i d h))

pub scripts_all : (ls : List Line) (lists : List (List Line)) (sessions : List Session) → lists ≡ all_lists ls → sessions ≡ filter (has_list lists) (map session session_numbers)
    → paired sessions lists ≡ scripts_of ls
unfolding session_numbers scripts_of
scripts_all ls lists sessions these those = ap (λ ss. paired ss lists) those ∙ ap (λ b. paired (filter (has_list b) (map session (range_with_len 0 256))) b) these ∙ scripts_for 256 ls

-- one more session number
pub sessions_more : (lists : List (List Line)) (done new : List Session) (n : ℕ) (none : Bool) → (length (list_at lists n) == 0) ≡ none
    → done ≡ filter (has_list lists) (map session (range_with_len 0 n)) → new ≡ (if none then done else done ++ session n ∷ [])
    → new ≡ filter (has_list lists) (map session (range_with_len 0 (n + 1)))
sessions_more lists done new n none is so_far put =
    put ∙ kept none is ∙ sym (filter_of_map_range_with_len_more (has_list lists) session 0 n n (omega arith))
  where
    kept : (none : Bool) → (length (list_at lists n) == 0) ≡ none → (if none then done else done ++ session n ∷ [])
        ≡ filter (has_list lists) (map session (range_with_len 0 n)) ++ cond (has_list lists (session n)) (session n ∷ []) []
    kept true is = rw (is, so_far, append-nil (filter (has_list lists) (map session (range_with_len 0 n))))
    kept false is = rw (is, so_far)

pub sessions_all : (lists : List (List Line)) (n : ℕ) → n ≡ 256 → filter (has_list lists) (map session (range_with_len 0 n)) ≡ filter (has_list lists) (map session session_numbers)
unfolding session_numbers
sessions_all lists n e = ap (λ n. filter (has_list lists) (map session (range_with_len 0 n))) e

pub list_read : (lists : List (Vec Line Global)) (i : ℕ) (v : Vec Line Global) → i < length lists → v ≡ get_or lists i v → list_at (lists_in lists) i ≡ v.items
list_read lists i v h read = get_or-map (λ v. v.items) lists i v [] h ∙ ap (λ v. v.items) (sym read)

-- a write to one list
pub lists_set : (lists : List (Vec Line Global)) (i : ℕ) (old new : Vec Line Global) (l : Line) → i ≡ l.session.0 → i < length lists → old ≡ get_or lists i old → new.items ≡ old.items ++ l ∷ []
    → lists_in (set lists i new) ≡ with_line (lists_in lists) l
lists_set lists i old new l at within read put =
    let was : old.items ≡ list_at (lists_in lists) i = sym (list_read lists i old within read) in
    map-set (λ v. v.items) lists i new
    ∙ ap (λ x. set (lists_in lists) i x) (put ∙ ap (λ x. x ++ l ∷ []) was)
    ∙ ap (λ k. set (lists_in lists) k (list_at (lists_in lists) k ++ l ∷ [])) at

pub length-paired : (sessions : List Session) (lists : List (List Line)) → length (paired sessions lists) ≡ length sessions
length-paired sessions lists = length-map sessions (λ s. (s, list_at lists s.0))

pub script_at : (sessions : List Session) (lists : List (Vec Line Global)) (i k : ℕ) (s : Session) (v : Vec Line Global) → i < length sessions → s ≡ get_or sessions i s → k ≡ s.0 → k < length lists
    → v ≡ get_or lists k v → option_map (λ p. p.1) (slice_get (paired sessions (lists_in lists)) i) ≡ Some v.items
script_at sessions lists i k s v h at place within read =
    ap (option_map (λ p. p.1))
    (slice_get-map (λ s. (s, list_at (lists_in lists) s.0)) sessions i
    ∙ ap (option_map (λ s. (s, list_at (lists_in lists) s.0))) (slice_get_read sessions (length sessions) i s refl h at))
    ∙ ap (λ k. Some (list_at (lists_in lists) k)) (sym place) ∙ ap (λ l. Some l) (list_read lists k v within read)
