-- Segments of one vector: the effect of an edit of one segment on the others.
use Rattle.std.proofs.Common.{◌≡◌, ◌≢◌, ◌⊎◌, ℕ, ◌+◌, ◌-◌, ◌<◌, ◌≤◌, Bool, cond, eqb, List, length, take, drop, get_or, refl}
use Rattle.std.proofs.Common.{sym, ◌∙◌, ap, subst, inl, inr, arith, length-take, length-drop, length-append, [], ◌∷◌, ◌++◌}
use Rattle.std.specs.List.{insert, remove, CopiedTo, SameBelow, SameFrom}
use Rattle.std.proofs.Math.ListN.{set, length-set, get_or-append}
use Rattle.std.proofs.lemmas.List.{get_or-take, get_or-drop, get_or-set_other, get_or_push, get_or_past, get_or_default, same_lists}
use Rattle.std.proofs.lemmas.List.Edits.{length-insert, get_or-insert_below, get_or-insert_at, get_or-insert_above, length-remove, get_or-remove_below, get_or-remove_above}
use Rattle.std.proofs.lemmas.List.Sums.{sum_by-set}
use Rattle.std.proofs.lemmas.Grind.{get_or-set_at}
use Rattle.std.proofs.lemmas.Bool.{cases_eq, cases_lt}
use Rattle.std.proofs.lemmas.Bool.Decides.{eqb_tells}
use Rattle.arena_multimap.specs.declared.arena.Arena.{Arena}
use Rattle.arena_multimap.specs.declared.arena.Segment.{Segment}
use Rattle.arena_multimap.specs.Arenas.{none, segment_at, values_at, list_at, lists, IsWithin, AreApart, Lies, HasRoomFor, owed}

module _ {V : Type 0} where
  -- a slice is equal to a list with the same elements
  pub slice_is : (xs L : List V) (a n : ℕ) → length L ≡ n → a + n ≤ length xs → ((k : ℕ) (d : V) → k < n → get_or xs (a + k) d ≡ get_or L k d) → take n (drop a xs) ≡ L
  slice_is xs L a n len within same =
      let long = length-take n (drop a xs) in
      let rest = length-drop a xs in
      same_lists (take n (drop a xs)) L (omega (arith, len, long, rest, within)) (λ k d lt. let l : k < n = omega (arith, lt, long) in
      get_or-take n (drop a xs) k d l ∙ (get_or-drop a xs k d ∙ same k d l))

  pub length-values_at : (vs : List V) (s : Segment) (n : ℕ) → IsWithin s (length vs) → length (values_at vs s) ≡ s.len
  length-values_at vs s n w = omega (arith, length-take s.len (drop s.start vs), length-drop s.start vs, w.len, w.end)

  pub get_or-values_at : (vs : List V) (s : Segment) (k : ℕ) (d : V) → k < s.len → get_or (values_at vs s) k d ≡ get_or vs (s.start + k) d
  get_or-values_at vs s k d lt = get_or-take s.len (drop s.start vs) k d lt ∙ get_or-drop s.start vs k d

  -- list i is now L, and nothing outside its segment has changed
  module _ (ss ss' : List Segment) (vs vs' : List V) (i : ℕ) (L : List V)
      (within : (j : ℕ) → IsWithin (segment_at ss j) (length vs))
      (apart : (j : ℕ) → j ≢ i → AreApart (segment_at ss j) (segment_at ss i))
      (len : length vs' ≡ length vs)
      (others : (j : ℕ) → j ≢ i → segment_at ss' j ≡ segment_at ss j)
      (kept : (k : ℕ) (d : V) → (k < (segment_at ss i).start) ⊎ ((segment_at ss i).start + (segment_at ss i).room ≤ k) → get_or vs' k d ≡ get_or vs k d)
      (count : length L ≡ (segment_at ss' i).len)
      (inside : (segment_at ss' i).start + (segment_at ss' i).len ≤ length vs')
      (here : (k : ℕ) (d : V) → k < length L → get_or vs' ((segment_at ss' i).start + k) d ≡ get_or L k d) where
    outside : (j k : ℕ) → j ≢ i → k < (segment_at ss j).len → ((segment_at ss j).start + k < (segment_at ss i).start) ⊎ ((segment_at ss i).start + (segment_at ss i).room ≤ (segment_at ss j).start + k)
    outside j k ne lt = elim (apart j ne) [ inl a ↦ inl (omega (arith, a, lt, (within j).len)) | inr b ↦ inr (omega (arith, b, lt)) ]

    other : (j : ℕ) → j ≢ i → values_at vs' (segment_at ss' j) ≡ values_at vs (segment_at ss j)
    other j ne =
        let s = segment_at ss j in
        ap (values_at vs') (others j ne)
        ∙ slice_is vs' (values_at vs s) s.start s.len (length-values_at vs s 0 (within j)) (omega (arith, len, (within j).len, (within j).end))
        (λ k d lt. kept (s.start + k) d (outside j k ne lt) ∙ sym (get_or-values_at vs s k d lt))

    mine : values_at vs' (segment_at ss' i) ≡ L
    mine = slice_is vs' L (segment_at ss' i).start (segment_at ss' i).len count inside (λ k d lt. here k d (omega (arith, lt, count)))

    pub edited : (j : ℕ) → values_at vs' (segment_at ss' j) ≡ cond (eqb j i) L (values_at vs (segment_at ss j))
    edited j = elim (eqb_tells j i) [
      | inl p ↦ ap (λ (k : ℕ). values_at vs' (segment_at ss' k)) p.1 ∙ mine ∙ sym (ap (λ (b : Bool). cond b L (values_at vs (segment_at ss j))) p.0)
      | inr p ↦ other j p.1 ∙ sym (ap (λ (b : Bool). cond b L (values_at vs (segment_at ss j))) p.0)
    ]

-- t replaces segment i at the same place, with no more values
module _ (ss : List Segment) (n debt i : ℕ) (t : Segment) (h : Lies ss n debt) (lt : i < length ss)
    (start : t.start ≡ (segment_at ss i).start) (room : t.room ≡ (segment_at ss i).room) (len : t.len ≤ (segment_at ss i).len) where
  pub here_now : segment_at (set ss i t) i ≡ t
  here_now = get_or-set_at ss i i t none refl lt

  pub other_now : (j : ℕ) → j ≢ i → segment_at (set ss i t) j ≡ segment_at ss j
  other_now j ne = get_or-set_other ss i j t none ne

  pub same_place : (j : ℕ) → ((segment_at (set ss i t) j).start ≡ (segment_at ss j).start) × ((segment_at (set ss i t) j).room ≡ (segment_at ss j).room)
      × ((segment_at (set ss i t) j).len ≤ (segment_at ss j).len)
  same_place j = elim (cases_eq j i) [
    | inl e ↦ subst (λ (k : ℕ). ((segment_at (set ss i t) k).start ≡ (segment_at ss k).start) × ((segment_at (set ss i t) k).room ≡ (segment_at ss k).room)
        × ((segment_at (set ss i t) k).len ≤ (segment_at ss k).len)) (sym e)
        (ap (λ (s : Segment). s.start) here_now ∙ start, ap (λ (s : Segment). s.room) here_now ∙ room, omega (arith, len, ap (λ (s : Segment). s.len) here_now))
    | inr ne ↦ (ap (λ (s : Segment). s.start) (other_now j ne), ap (λ (s : Segment). s.room) (other_now j ne), omega (arith, ap (λ (s : Segment). s.len) (other_now j ne)))
  ]

  pub shrunk : Lies (set ss i t) n debt
  shrunk = record {
    within = λ j. let p = same_place j in let w = h.within j in record { len = omega (arith, p.1, p.2, w.len); end = omega (arith, p.0, p.1, w.end) };
    apart = λ j k ne. let p = same_place j in let q = same_place k in elim (h.apart j k ne) [ inl a ↦ inl (omega (arith, a, p.0, p.1, q.0)) | inr b ↦ inr (omega (arith, b, q.0, q.1, p.0)) ];
    owes = omega (arith, h.owes, sum_by-set owed ss i t none lt, len, room);
  }

-- a list that has values exists
pub known : {V : Type 0} (ss : List Segment) (vs : List V) (i at : ℕ) → at < length (values_at vs (segment_at ss i)) → i < length ss
known ss vs i at lt = elim (cases_lt i (length ss)) [
  | inl l ↦ l
  | inr ge ↦
      let z = ap (λ (s : Segment). s.len) (get_or_past ss i none ge) in
      absurd (omega (arith, z, lt, length-take (segment_at ss i).len (drop (segment_at ss i).start vs)))
]

-- a list that does not exist has no values
pub no_list : {V : Type 0} (a : Arena V) (i : ℕ) → lists a ≤ i → list_at a i ≡ []
no_list a i le = ap (values_at a.values.items) (get_or_past a.segments.items i none le)

-- room for more is room for less
pub less_room : {V : Type 0} {a : Arena V} {m n : ℕ} → HasRoomFor a m n → (m' n' : ℕ) → m' ≤ m → n' ≤ n → HasRoomFor a m' n'
less_room room m' n' fewer less = record {
  segments = omega (arith, fewer, room.segments);
  values = omega (arith, less, room.values);
  short = omega (arith, less, room.short);
}

-- the segment that was read is segment i
pub read_is : (ss : List Segment) (i : ℕ) (r : Segment) → i < length ss → r ≡ get_or ss i r → r ≡ segment_at ss i
read_is ss i r lt e = e ∙ get_or_default ss i r none lt

-- the effect of each edit of an arena on the values of its lists; r is the segment that is edited
module _ {V : Type 0} (ss : List Segment) (vs : List V) (debt i : ℕ) (r : Segment) (h : Lies ss (length vs) debt) (is : r ≡ segment_at ss i) where
  start_is : r.start ≡ (segment_at ss i).start
  start_is = ap (λ (s : Segment). s.start) is

  len_is : r.len ≡ (segment_at ss i).len
  len_is = ap (λ (s : Segment). s.len) is

  room_is : r.room ≡ (segment_at ss i).room
  room_is = ap (λ (s : Segment). s.room) is

  long : length (values_at vs (segment_at ss i)) ≡ r.len
  long = length-values_at vs (segment_at ss i) 0 (h.within i) ∙ sym len_is

  -- a value is overwritten
  pub replaced : (at p : ℕ) (v : V) → at < length (values_at vs (segment_at ss i)) → p ≡ r.start + at → (j : ℕ) → values_at (set vs p v) (segment_at ss j) ≡ cond (eqb j i)
      (set (values_at vs (segment_at ss i)) at v) (values_at vs (segment_at ss j))
  replaced at p v lt here =
      let s = segment_at ss i in
      let w = h.within i in
      edited ss ss vs (set vs p v) i (set (values_at vs s) at v) h.within (λ j ne. h.apart j i ne) (length-set vs p v) (λ j ne. refl)
      (λ k d out. get_or-set_other vs p k v d (elim out [ inl a ↦ omega (arith, a, here, start_is) | inr b ↦ omega (arith, b, here, start_is, len_is, lt, long, w.len) ]))
      (length-set (values_at vs s) at v ∙ long ∙ len_is)
      (omega (arith, w.len, w.end, length-set vs p v))
      (λ k d l. elim (cases_eq k at) [
        | inl e ↦ get_or-set_at vs p (s.start + k) v d (omega (arith, e, here, start_is)) (omega (arith, here, start_is, lt, long, len_is, w.len, w.end))
            ∙ sym (get_or-set_at (values_at vs s) at k v d e lt)
        | inr ne ↦
            get_or-set_other vs p (s.start + k) v d (omega (arith, ne, here, start_is))
            ∙ sym (get_or-values_at vs s k d (omega (arith, l, length-set (values_at vs s) at v, long, len_is)))
            ∙ sym (get_or-set_other (values_at vs s) at k v d ne)
      ])

  -- a value is appended to a list whose segment has room
  pub appended : (p : ℕ) (v : V) (t : Segment) → i < length ss → r.len < r.room → p ≡ r.start + r.len → t.start ≡ r.start → t.len ≡ r.len + 1 → (j : ℕ)
      → values_at (set vs p v) (segment_at (set ss i t) j) ≡ cond (eqb j i) (values_at vs (segment_at ss i) ++ v ∷ []) (values_at vs (segment_at ss j))
  appended p v t lt wide here start len =
      let s = segment_at ss i in
      let w = h.within i in
      let now : segment_at (set ss i t) i ≡ t = get_or-set_at ss i i t none refl lt in
      let now_start = ap (λ (s : Segment). s.start) now in
      let now_len = ap (λ (s : Segment). s.len) now in
      let n = length-append (values_at vs s) (v ∷ []) in
      edited ss (set ss i t) vs (set vs p v) i (values_at vs s ++ v ∷ []) h.within (λ j ne. h.apart j i ne) (length-set vs p v) (λ j ne. get_or-set_other ss i j t none ne)
      (λ k d out. get_or-set_other vs p k v d (elim out [ inl a ↦ omega (arith, a, here, start_is) | inr b ↦ omega (arith, b, here, start_is, wide, room_is) ]))
      (omega (arith, n, long, now_len, len))
      (omega (arith, now_start, now_len, start, len, start_is, wide, room_is, w.end, length-set vs p v))
      (λ k d l. elim (cases_eq k r.len) [
        | inl e ↦ get_or-set_at vs p ((segment_at (set ss i t) i).start + k) v d (omega (arith, e, here, now_start, start)) (omega (arith, here, start_is, wide, room_is, w.end))
            ∙ sym (get_or_push (values_at vs s) v d k (omega (arith, long, e)))
        | inr ne ↦
            get_or-set_other vs p ((segment_at (set ss i t) i).start + k) v d (omega (arith, ne, here, now_start, start))
            ∙ ap (λ (m : ℕ). get_or vs m d) (omega (arith, now_start, start, start_is))
            ∙ sym (get_or-values_at vs s k d (omega (arith, l, ne, n, long, len_is)))
            ∙ sym (get_or-append (values_at vs s) (v ∷ []) d k (omega (arith, l, ne, n, long)))
      ])

  -- a value is removed, and those after it move down
  pub removed : (vs' : List V) (at p q : ℕ) (t : Segment) → at < length (values_at vs (segment_at ss i)) → p ≡ r.start + at → q ≡ r.start + r.len → t.start ≡ r.start → t.len ≡ r.len - 1
      → length vs' ≡ length vs
      → CopiedTo vs vs' (p + 1) p (q - (p + 1)) → SameBelow vs vs' p → SameFrom vs vs' (p + (q - (p + 1)))
      → (j : ℕ) → values_at vs' (segment_at (set ss i t) j) ≡ cond (eqb j i) (remove (values_at vs (segment_at ss i)) at) (values_at vs (segment_at ss j))
  removed vs' at p q t lt here behind start len same copied below from =
      let s = segment_at ss i in
      let w = h.within i in
      let now : segment_at (set ss i t) i ≡ t = get_or-set_at ss i i t none refl (known ss vs i at lt) in
      let now_start = ap (λ (s : Segment). s.start) now in
      let now_len = ap (λ (s : Segment). s.len) now in
      let n = length-remove (values_at vs s) at lt in
      edited ss (set ss i t) vs vs' i (remove (values_at vs s) at) h.within (λ j ne. h.apart j i ne) same (λ j ne. get_or-set_other ss i j t none ne)
      (λ k d out. elim out [ inl a ↦ below k d (omega (arith, a, here, start_is)) | inr b ↦ from k d (omega (arith, b, here, behind, start_is, len_is, lt, long, w.len)) ])
      (omega (arith, n, long, now_len, len))
      (omega (arith, now_start, now_len, start, len, start_is, len_is, w.len, w.end, same))
      (λ k d l. elim (cases_lt k at) [
        | inl lo ↦
            below ((segment_at (set ss i t) i).start + k) d (omega (arith, lo, here, now_start, start))
            ∙ ap (λ (m : ℕ). get_or vs m d) (omega (arith, now_start, start, start_is))
            ∙ sym (get_or-values_at vs s k d (omega (arith, lo, lt, long, len_is)))
            ∙ sym (get_or-remove_below (values_at vs s) at d k lo lt)
        | inr hi ↦
            copied ((segment_at (set ss i t) i).start + k) d (omega (arith, hi, here, now_start, start)) (omega (arith, l, n, long, here, behind, now_start, start))
            ∙ ap (λ (m : ℕ). get_or vs m d) (let e : p + 1 + ((segment_at (set ss i t) i).start + k - p) ≡ s.start + (k + 1) = omega (arith, hi, here, now_start, start, start_is) in e)
            ∙ sym (get_or-values_at vs s (k + 1) d (omega (arith, l, n, long, len_is)))
            ∙ sym (get_or-remove_above (values_at vs s) at d k hi lt)
      ])

  -- the last value v moves to index `at`, and those from there on move up
  pub brought : (vs' : List V) (at p q : ℕ) (v : V) (M : List V) → values_at vs (segment_at ss i) ≡ M ++ v ∷ [] → at ≤ length M → p ≡ r.start + at → q ≡ r.start + r.len - 1 → length vs' ≡ length vs
      → CopiedTo vs vs' p (p + 1) (q - p) → SameBelow vs vs' (p + 1) → SameFrom vs vs' (p + 1 + (q - p))
      → (j : ℕ) → values_at (set vs' p v) (segment_at ss j) ≡ cond (eqb j i) (insert M at v) (values_at vs (segment_at ss j))
  brought vs' at p q v M was le here last same copied below from =
      let s = segment_at ss i in
      let w = h.within i in
      let m : length M + 1 ≡ r.len = omega (arith, length-append M (v ∷ []), ap length was, long) in
      let n = length-insert M at v le in
      edited ss ss vs (set vs' p v) i (insert M at v) h.within (λ j ne. h.apart j i ne) (length-set vs' p v ∙ same) (λ j ne. refl)
      (λ k d out. elim out [
        | inl a ↦ get_or-set_other vs' p k v d (omega (arith, a, here, start_is)) ∙ below k d (omega (arith, a, here, start_is))
        | inr b ↦ get_or-set_other vs' p k v d (omega (arith, b, here, start_is, len_is, le, m, w.len)) ∙ from k d (omega (arith, b, here, last, start_is, len_is, le, m, w.len))
      ])
      (omega (arith, n, m, len_is))
      (omega (arith, w.len, w.end, length-set vs' p v, same))
      (λ k d l. elim (cases_eq k at) [
        | inl e ↦ get_or-set_at vs' p (s.start + k) v d (omega (arith, e, here, start_is)) (omega (arith, here, start_is, len_is, le, m, w.len, w.end, same)) ∙ sym (get_or-insert_at M at v d le)
            ∙ ap (λ (q : ℕ). get_or (insert M at v) q d) (sym e)
        | inr ne ↦ elim (cases_lt k at) [
          | inl lo ↦
              get_or-set_other vs' p (s.start + k) v d (omega (arith, ne, here, start_is)) ∙ below (s.start + k) d (omega (arith, lo, here, start_is))
              ∙ sym (get_or-values_at vs s k d (omega (arith, lo, le, m, len_is))) ∙ ap (λ (l : List V). get_or l k d) was
              ∙ get_or-append M (v ∷ []) d k (omega (arith, lo, le))
              ∙ sym (get_or-insert_below M at v d k lo le)
          | inr hi ↦
              let one : k ≡ k - 1 + 1 = omega (arith, hi, ne) in
              get_or-set_other vs' p (s.start + k) v d (omega (arith, ne, here, start_is)) ∙ copied (s.start + k) d (omega (arith, hi, ne, here, start_is))
              (omega (arith, l, n, m, hi, ne, here, last, start_is))
              ∙ ap (λ (q : ℕ). get_or vs q d) (let e : p + (s.start + k - (p + 1)) ≡ s.start + (k - 1) = omega (arith, hi, ne, here, start_is) in e)
              ∙ sym (get_or-values_at vs s (k - 1) d (omega (arith, l, n, m, len_is, hi, ne))) ∙ ap (λ (l : List V). get_or l (k - 1) d) was
              ∙ get_or-append M (v ∷ []) d (k - 1) (omega (arith, l, n, hi, ne))
              ∙ sym (get_or-insert_above M at v d (k - 1) (omega (arith, hi, ne)) le)
              ∙ ap (λ (q : ℕ). get_or (insert M at v) q d) (sym one)
        ]
      ])
