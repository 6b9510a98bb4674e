-- Buckets: in each, two lists of one length, the keys in ascending order and each value at the place of its key.
use Rattle.std.specs.Prelude.{◌≡◌, ◌≢◌, ℕ, suc, ◌+◌, ◌%◌, ◌≤◌, ◌<◌, Bool, cond, not, List, [], ◌∷◌, ◌++◌, ⊤, length, get_or, vec_len, vec_capacity, IsFalse}
use Rattle.std.specs.Ordering.{is_lt, is_eq, is_gt}
use Rattle.std.specs.declared.cmp.Ordering.{Ordering}
use Rattle.sorted_multimap.specs.declared.bucket.Bucket.{Bucket}

-- the values of the key k, of keys beside their values
abbrev pub values_beside : {K V : Type 0} → (K → K → Ordering) → List K → List V → K → List V
values_beside R [] vs k = []
values_beside R (j ∷ js) [] k = []
values_beside R (j ∷ js) (v ∷ vs) k = let r = values_beside R js vs k in cond (is_eq (R j k)) (v ∷ r) r

abbrev pub bucket_values : {K V : Type 0} → (K → K → Ordering) → Bucket K V → K → List V
bucket_values R p k = values_beside R p.keys.items p.values.items k

-- no key is above a later one
abbrev pub NoneBelow : {K : Type 0} → (K → K → Ordering) → K → List K → Type 0
NoneBelow R k [] = ⊤
NoneBelow R k (j ∷ js) = IsFalse (is_gt (R k j)) × NoneBelow R k js

abbrev pub Ascends : {K : Type 0} → (K → K → Ordering) → List K → Type 0
Ascends R [] = ⊤
Ascends R (k ∷ ks) = NoneBelow R k ks × Ascends R ks

-- how many pass
abbrev pub passing : {K : Type 0} → (K → Bool) → List K → ℕ
passing p [] = 0
passing p (j ∷ js) = let n = passing p js in cond (p j) (suc n) n

-- how many keys are below k, and how many are not above it
abbrev pub lows : {K : Type 0} → (K → K → Ordering) → List K → K → ℕ
lows R ks k = passing (λ j. is_lt (R j k)) ks

abbrev pub tops : {K : Type 0} → (K → K → Ordering) → List K → K → ℕ
tops R ks k = passing (λ j. not (is_gt (R j k))) ks

pub record IsSorted {K V : Type 0} (R : K → K → Ordering) (p : Bucket K V) : Type 0 where
  pub ascends : Ascends R p.keys.items
  pub paired : vec_len p.keys ≡ vec_len p.values

-- both have room for n more
pub record HasRoom {K V : Type 0} (p : Bucket K V) (n : ℕ) : Type 0 where
  pub keys : vec_len p.keys + n ≤ vec_capacity p.keys
  pub values : vec_len p.values + n ≤ vec_capacity p.values

-- of the bucket p an edit made r: the values of k are now vs, those of other keys stay, and `taken` places of the room are gone
pub record IsEdited {K V : Type 0} (R : K → K → Ordering) (p r : Bucket K V) (k : K) (vs : List V) (taken : ℕ) : Type 0 where
  pub sorted : IsSorted R r
  pub values : (q : K) → bucket_values R r q ≡ cond (is_eq (R k q)) vs (bucket_values R p q)
  pub room : (m n : ℕ) → n + taken ≤ m → HasRoom p m → HasRoom r n

-- each key beside its value
abbrev pub beside : {K V : Type 0} → List K → List V → List (K × V)
beside [] vs = []
beside (k ∷ ks) [] = []
beside (k ∷ ks) (v ∷ vs) = (k, v) ∷ beside ks vs

-- the entries of all buckets, one bucket after the other
abbrev pub entries_of : {K V : Type 0} → List (Bucket K V) → List (K × V)
entries_of [] = []
entries_of (b ∷ bs) = beside b.keys.items b.values.items ++ entries_of bs

-- of n buckets this is number i: it is sorted, has room, and holds the values of keys whose spread has the remainder i
pub record IsBucket {K V : Type 0} (R : K → K → Ordering) (spread : K → ℕ) (n i spare : ℕ) (b : Bucket K V) : Type 0 where
  pub sorted : IsSorted R b
  pub room : HasRoom b spare
  pub own : (q : K) → spread q % n ≢ i → bucket_values R b q ≡ []

-- each bucket is sound, and if there is room there is a bucket
pub record IsSpread {K V : Type 0} (R : K → K → Ordering) (spread : K → ℕ) (bs : List (Bucket K V)) (spare : ℕ) : Type 0 where
  pub some : 0 < spare → 0 < length bs
  pub each : (i : ℕ) (d : Bucket K V) → i < length bs → IsBucket R spread (length bs) i spare (get_or bs i d)

-- two buckets hold the same, and the second has at least the room of the first
pub record IsKept {K V : Type 0} (R : K → K → Ordering) (a b : Bucket K V) : Type 0 where
  pub keys : b.keys.items ≡ a.keys.items
  pub values : b.values.items ≡ a.values.items
  pub sorted : IsSorted R a → IsSorted R b
  pub room : (n : ℕ) → HasRoom a n → HasRoom b n

-- the same of the buckets of two lists, place by place
pub record AreKept {K V : Type 0} (R : K → K → Ordering) (as_ bs : List (Bucket K V)) : Type 0 where
  pub len : length bs ≡ length as_
  pub each : (i : ℕ) (d : Bucket K V) → i < length as_ → IsKept R (get_or as_ i d) (get_or bs i d)
