use Rattle.iso_etcd.proofs.endpoints.+add_members.Given as goal

abbrev pub decreases-add_members : goal.decreases-add_members
decreases-add_members l = l.room
