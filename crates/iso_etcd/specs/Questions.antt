-- What is asked of etcd, as JSON. Keys and values are base64.
use Rattle.std.specs.Prelude.{ℕ, List, codes}
use Rattle.base64.specs.Engines.{standard}
use Rattle.base64.specs.GeneralPurpose.{encode_of}
use Rattle.serde_json.specs.Data.{Data, Members, number, unsigned, string, array, object, item, no_items, member, no_members}

-- bytes, as base64
abbrev pub base64 : List ℕ → Data
base64 bytes = string (encode_of standard bytes)

-- a list of one
abbrev pub one : Data → Data
one what = array (item what no_items)

-- that nothing stands at a key: nothing was ever put there, or what was is gone
abbrev pub is_free : Data → Data
is_free key =
    object (member (codes "create_revision") (string (codes "0"))
    (member (codes "key") key
    (member (codes "result") (string (codes "EQUAL"))
    (member (codes "target") (string (codes "CREATE")) no_members))))

-- what stands at a key is to be told
abbrev pub told_of : Data → Data
told_of key =
    object
    (member (codes "request_range") (object (member (codes "key") key no_members)) no_members)

-- a transaction: where nothing stands at the key something is put, and else what stands there is told
abbrev pub transaction : Data → Data → Data
transaction key put =
    object (member (codes "compare") (one (is_free key))
    (member (codes "failure") (one (told_of key))
    (member (codes "success") (one put) no_members)))

-- what is put
abbrev pub put_of : Members → Data
put_of what = object (member (codes "request_put") (object what) no_members)

-- a value that stays is put
abbrev pub lasting : Data → Data → Data
lasting key value = put_of (member (codes "key") key (member (codes "value") value no_members))

-- a value is put that stays for as long as a lease
abbrev pub leased : Data → Data → ℕ → Data
leased key value lease =
    put_of (member (codes "key") key
    (member (codes "lease") (number (unsigned lease))
    (member (codes "value") value no_members)))

-- where nothing stands at the key, the value is to be put there, and stays
abbrev pub put_data : List ℕ → List ℕ → Data
put_data key value = transaction (base64 key) (lasting (base64 key) (base64 value))

-- where nothing stands at the key, the value is to be put there for as long as the lease
abbrev pub put_leased_data : List ℕ → List ℕ → ℕ → Data
put_leased_data key value lease =
    transaction (base64 key) (leased (base64 key) (base64 value) lease)

-- the values from a key on, before another key, at most so many
abbrev pub range_of : Data → Data → ℕ → Data
range_of first end limit =
    object (member (codes "key") first
    (member (codes "limit") (number (unsigned limit))
    (member (codes "range_end") end no_members)))

-- the same of keys in bytes
abbrev pub range_data : List ℕ → List ℕ → ℕ → Data
range_data first end limit = range_of (base64 first) (base64 end) limit

-- the value at a key
abbrev pub look_of : Data → Data
look_of key = object (member (codes "key") key no_members)

-- the same of a key in bytes
abbrev pub look_data : List ℕ → Data
look_data key = look_of (base64 key)

-- a token for a user
abbrev pub login_data : List ℕ → List ℕ → Data
login_data user password =
    object
    (member (codes "name") (string user) (member (codes "password") (string password) no_members))

-- a lease of so many seconds
abbrev pub grant_data : ℕ → Data
grant_data seconds = object (member (codes "TTL") (number (unsigned seconds)) no_members)

-- a lease, by its number
abbrev pub lease_data : ℕ → Data
lease_data lease = object (member (codes "ID") (number (unsigned lease)) no_members)
