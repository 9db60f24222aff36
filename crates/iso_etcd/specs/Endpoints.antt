-- How it is written where a journal is kept.
use Rattle.std.specs.Prelude.{◌≡◌, ℕ, ◌<◌, ◌≤◌, List, [], ◌∷◌, ◌++◌, length, Option, Some, None, codes, string_bytes, vec_len}
use Rattle.iso_etcd.specs.Keys.{name_text}
use Rattle.iso_etcd.specs.Members.{Has, Lacks, before, behind, IsMember}
use Rattle.iso_etcd.specs.declared.member.Member.{Member}
use Rattle.iso_etcd.specs.declared.user.User.{User}
use Rattle.iso_etcd.specs.declared.endpoints.Endpoints.{Endpoints}

-- members with commas between them, at least one
abbrev pub AreMembers : List ℕ → List Member → Type 0
AreMembers text [] = ⊥
AreMembers text (member ∷ []) = Lacks 44 text × IsMember text member
AreMembers text (member ∷ other ∷ others) =
    Has 44 text × IsMember (before 44 text) member × AreMembers (behind 44 text) (other ∷ others)

-- the member of a text is added
abbrev pub AddsMember : List ℕ → List Member → List Member → Type 0
AddsMember text old new = (member : Member) × (new ≡ old ++ member ∷ []) × IsMember text member

-- the members of a text are added, at most so many
abbrev pub AddsMembers : List ℕ → ℕ → List Member → List Member → Type 0
AddsMembers text most old new =
    (added : List Member) × (new ≡ old ++ added) × AreMembers text added × (length added ≤ most)

-- a name, a colon and a password; neither is empty
abbrev pub IsUser : List ℕ → User → Type 0
IsUser text user =
    Has 58 text × (string_bytes user.name ≡ before 58 text)
    × (string_bytes user.password ≡ behind 58 text)
    × (0 < length (string_bytes user.name)) × (0 < length (string_bytes user.password))

-- the members, behind a user and an at sign where there is a user
abbrev pub IsWho : List ℕ → Option User → List Member → Type 0
IsWho text None members = Lacks 64 text × AreMembers text members
IsWho text (Some user) members = Has 64 text × IsUser (before 64 text) user
    × AreMembers (behind 64 text) members

-- the user and the members, a slash and the journal's name
abbrev pub IsBehindScheme : List ℕ → Endpoints → Type 0
IsBehindScheme text endpoints =
    Has 47 text × (name_text endpoints.name ≡ behind 47 text)
    × IsWho (before 47 text) endpoints.user endpoints.members.items
    × (vec_len endpoints.members ≤ 16)

-- all of it, behind etcd://
abbrev pub IsEndpoints : List ℕ → Endpoints → Type 0
IsEndpoints text endpoints = (rest : List ℕ) × (text ≡ codes "etcd://" ++ rest)
    × IsBehindScheme rest endpoints
