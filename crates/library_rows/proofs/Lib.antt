mod OwnInstance
