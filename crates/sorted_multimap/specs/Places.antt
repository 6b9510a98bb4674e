-- Places in a bucket: what a search by number among the values of a key finds.
use Rattle.std.specs.Prelude.{◌≡◌, ℕ, ◌-◌, ◌<◌, ◌≤◌, Ok, Err}
use Rattle.std.specs.declared.cmp.Ordering.{Ordering}
use Rattle.teb_rules.specs.history.Ascending.{place_of}
use Rattle.sorted_multimap.specs.declared.bucket.Bucket.{Bucket}
use Rattle.sorted_multimap.specs.Buckets.{bucket_values, lows, tops}

-- the value with the number n among those of k is there
pub record IsFound {K V : Type 0} (R : K → K → Ordering) (key : V → ℕ) (p : Bucket K V) (k : K) (n : ℕ) (at : ℕ) : Type 0 where
  pub low : lows R p.keys.items k ≤ at
  pub top : at < tops R p.keys.items k
  pub is : place_of key (bucket_values R p k) n ≡ Ok (at - lows R p.keys.items k)

-- none of them has the number, and one would go there
pub record IsMissing {K V : Type 0} (R : K → K → Ordering) (key : V → ℕ) (p : Bucket K V) (k : K) (n : ℕ) (at : ℕ) : Type 0 where
  pub low : lows R p.keys.items k ≤ at
  pub top : at ≤ tops R p.keys.items k
  pub is : place_of key (bucket_values R p k) n ≡ Err (at - lows R p.keys.items k)
