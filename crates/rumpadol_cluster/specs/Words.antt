-- What the words about a journal on etcd say.
use Rattle.std.specs.Prelude.{◌≡◌, ◌==◌, ◌*◌, ℕ, Bool, false, List, Option, Some, None, codes}
use Rattle.std.specs.List.{starts_with}
use Rattle.rumpadol_cluster.specs.declared.words.ReplicaWords.{ReplicaWords}

-- a word names a journal on etcd
abbrev pub is_on_etcd : List ℕ → Bool
is_on_etcd word = starts_with (λ a b. a == b) word (codes "etcd://")

-- how long a lease lasts that nobody keeps, in seconds: 5 where no word tells it
abbrev pub lease_of : Option ℕ → ℕ
lease_of (Some seconds) = seconds
lease_of None = 5

-- how long a call may take, in milliseconds: a second where no word tells it
abbrev pub timeout_of : Option ℕ → ℕ
timeout_of (Some milliseconds) = milliseconds
timeout_of None = 1000

-- how long a batch in doubt is asked for, in milliseconds: half a minute where no word tells it
abbrev pub give_up_of : Option ℕ → ℕ
give_up_of (Some seconds) = seconds * 1000
give_up_of None = 30000

-- nothing is said of a journal on etcd
pub record SaysNothing (words : ReplicaWords) : Type 0 where
  pub standby : words.is_standby ≡ false
  pub lease : words.lease ≡ None
  pub timeout : words.timeout ≡ None
  pub give_up : words.give_up ≡ None
  pub user : words.user ≡ None
